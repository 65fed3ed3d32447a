pub mod Sets
pub mod Contents
pub mod Taking
pub mod Histories
pub mod Map
pub mod Figures
