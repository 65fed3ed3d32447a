pub mod Digits
pub mod Short
pub mod Text
pub mod Parsing
