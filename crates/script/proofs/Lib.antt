mod Bytes
mod Calls
mod Lengths
