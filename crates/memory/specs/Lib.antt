pub mod Events
pub mod Rows
pub mod Logs
pub mod Serving
pub mod Figures
