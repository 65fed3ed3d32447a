pub mod Channels
pub mod Figures
pub mod Limits
pub mod PerChannel
pub mod Schedule
pub mod Sets
pub mod Setting
