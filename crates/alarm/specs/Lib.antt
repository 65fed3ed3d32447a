pub mod Pieces
pub mod Held
pub mod Table
pub mod Figures
