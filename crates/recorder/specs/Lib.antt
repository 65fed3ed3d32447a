pub mod Control
pub mod Contents
pub mod Events
pub mod Commands
pub mod Seconds
pub mod Map
pub mod State
pub mod Seen
