pub mod Fronts
mod Texts
mod Parses
