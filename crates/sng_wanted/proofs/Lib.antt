mod OpenLemmas
mod OrderLemmas
mod OwedLemmas
mod PlaceLemmas
mod ShownLemmas
