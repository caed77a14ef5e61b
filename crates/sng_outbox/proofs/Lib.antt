pub mod IdLemmas
pub mod ItemLemmas
pub mod LoadLemmas
pub mod MarkLemmas
pub mod PlaceLemmas
pub mod SlotLemmas
