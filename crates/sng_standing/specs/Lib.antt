pub mod Found
pub mod Greatest
pub mod Holders
pub mod Standing
pub mod Tree
