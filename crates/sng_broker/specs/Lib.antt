pub mod Brokers
pub mod Steps
pub mod Laws
