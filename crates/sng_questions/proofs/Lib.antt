pub mod ShortNameLemmas
pub mod PublishingLemmas
