pub mod Reply
pub mod Collecting
pub mod Store
pub mod Wires
pub mod Sending
pub mod Frames
