pub mod NameLemmas
pub mod SubscriptionLemmas
pub mod SameLemmas
