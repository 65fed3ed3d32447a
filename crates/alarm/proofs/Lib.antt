pub mod Stretching
pub mod Cutting
pub mod Histories
pub mod Keeping
