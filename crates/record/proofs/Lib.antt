pub mod Rows
pub mod Logged
pub mod Counted
pub mod Records
