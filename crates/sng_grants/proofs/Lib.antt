pub mod CopyLemmas
pub mod EndLemmas
pub mod FoundLemmas
pub mod IndexLemmas
pub mod OrderLemmas
pub mod ScopeLemmas
pub mod TreeLemmas
