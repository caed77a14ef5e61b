pub mod Copies
pub mod Peers
pub mod Replays
