pub mod Commands
pub mod Receiving
