pub mod Scopes
pub mod Sources
pub mod Limits
pub mod Listed
pub mod Policies
pub mod Ends
pub mod Topics
pub mod Laws
