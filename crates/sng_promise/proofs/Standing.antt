-- The filters that stand for clients, and how they end.
pub mod StandingNotes
pub mod StandingStrangers
pub mod LawEnds
pub mod StandingState
pub mod StandingLaws
pub mod StandingFilters
pub mod StandingBegins
pub mod FiltersHeld
