pub mod Bins
pub mod Codes
pub mod Figures
