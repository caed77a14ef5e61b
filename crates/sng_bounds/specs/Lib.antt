pub mod Counts
pub mod Drifts
pub mod Floods
pub mod Patiences
pub mod Refusals
pub mod Tries
pub mod UnixClocks
