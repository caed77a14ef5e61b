pub mod Spanning
pub mod Tallying
pub mod Acting
pub mod Going
pub mod Handing
pub mod Lining
pub mod Wholes
pub mod Crossing
