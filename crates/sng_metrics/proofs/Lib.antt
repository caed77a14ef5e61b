pub mod AnswerLemmas
pub mod DecisionLemmas
pub mod FaultLemmas
pub mod HeadLemmas
pub mod PageLemmas
pub mod PlaceLemmas
pub mod PushLemmas
