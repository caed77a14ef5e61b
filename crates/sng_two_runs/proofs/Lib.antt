pub mod Histories
pub mod Traces
pub mod Addresses
pub mod Found
pub mod Agreement
