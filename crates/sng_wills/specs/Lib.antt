pub mod Wills
pub mod Stated
pub mod Laws
