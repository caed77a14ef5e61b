pub mod GreatestLemmas
pub mod HeldLemmas
pub mod PlaceLemmas
