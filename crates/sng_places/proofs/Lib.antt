pub mod ItemLemmas
pub mod FaultLemmas
pub mod OrderLemmas
pub mod StandingLemmas
pub mod FailLemmas
