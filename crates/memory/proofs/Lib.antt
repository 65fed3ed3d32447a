pub mod Stores
pub mod Events
pub mod Places
pub mod Laws
