pub mod FlagsOctet
pub mod Levels
pub mod MessageTypes
pub mod Grammar
pub mod Parts
pub mod Reading
pub mod Writing
pub mod Laws
