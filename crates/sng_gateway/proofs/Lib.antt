pub mod ArrivalLemmas
pub mod DeedLemmas
pub mod EventLemmas
pub mod PlayLemmas
