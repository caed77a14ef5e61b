pub mod Writing
pub mod Turns
pub mod Wholes
pub mod Feeding
pub mod Places
