pub mod Devices
pub mod Wires
pub mod Streaming
pub mod Turning
pub mod Running
