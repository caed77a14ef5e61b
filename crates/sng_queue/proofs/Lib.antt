pub mod OrderLemmas
pub mod Passing
