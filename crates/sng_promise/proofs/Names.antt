-- The topic ids that clients are told, and the names behind them.
pub mod Marked
pub mod SeenIds
pub mod OneToldMessages
pub mod OneTold
pub mod NamesOnce
pub mod LawNames
pub mod Confirmed
pub mod LawNamesSubscribed
