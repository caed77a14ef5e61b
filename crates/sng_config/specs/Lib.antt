pub mod Names
pub mod Places
pub mod Values
pub mod Reading
pub mod Refusals
pub mod Documents
pub mod Laws
