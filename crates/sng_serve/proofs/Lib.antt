pub mod VisitLemmas
pub mod ParcelLemmas
