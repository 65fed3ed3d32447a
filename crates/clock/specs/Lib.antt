pub mod Bcd
pub mod Calendar
pub mod Elapsed
pub mod Figures
pub mod Registers
pub mod Ticking
