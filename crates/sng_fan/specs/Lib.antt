pub mod Greatest
pub mod Laws
pub mod Subscriptions
