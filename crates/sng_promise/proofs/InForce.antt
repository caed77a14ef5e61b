-- Each note stands under the policy in force, and nothing goes out but behind a note.
pub mod EachNote
pub mod EachNoteRow
pub mod PromiseRules
pub mod PromiseCovers
pub mod PromiseAsks
pub mod PromiseWills
pub mod PromiseConnects
pub mod PromiseHands
pub mod PromiseClients
pub mod PromiseNobody
pub mod LawPromise
pub mod LawReaches
pub mod LawReached
pub mod PromiseRefuses
