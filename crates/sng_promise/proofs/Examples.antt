-- The worked rows, by computation.
pub mod WorkedLemmas
pub mod WorkedClients
pub mod WorkedAsks
pub mod WorkedOnce
pub mod WorkedSubscriptions
pub mod WorkedMessages
pub mod WorkedWills
pub mod WorkedSleep
pub mod WorkedBooks
pub mod WorkedEnds
pub mod WorkedLimits
