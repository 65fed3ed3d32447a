pub mod Countdowns
pub mod DueCounts
