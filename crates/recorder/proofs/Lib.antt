pub mod Maps
pub mod Obeys
