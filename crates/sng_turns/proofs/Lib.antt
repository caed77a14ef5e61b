pub mod KnownLemmas
pub mod DeliverLemmas
mod HolderLemmas
pub mod Crossing
