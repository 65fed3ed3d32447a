pub mod Lines
pub mod Parsing
pub mod Answers
pub mod Figures
