pub mod CopyLemmas
pub mod IdLemmas
pub mod NameLemmas
