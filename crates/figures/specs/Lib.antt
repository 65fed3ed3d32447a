pub mod Runs
pub mod Alarms
pub mod Bins
pub mod Refusals
pub mod Figures
