pub mod Division
pub mod Figures
