pub mod NameLemmas
pub mod EntryLemmas
pub mod TurnLemmas
pub mod RefusalLemmas
pub mod NodeLemmas
pub mod LineLemmas
pub mod DocumentLemmas
