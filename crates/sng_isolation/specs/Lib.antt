pub mod Own
pub mod View
pub mod Trace
pub mod Room
pub mod Isolation
pub mod Examples
