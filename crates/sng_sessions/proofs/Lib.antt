pub mod HeldLemmas
pub mod KeptLemmas
pub mod HoldersLemmas
mod GreatestHeld
mod HoldersListed
mod PlacesListed
pub mod MovedLists
pub mod HandedLemmas
mod IdLemmas
mod Looks
mod Moves
mod There
mod DueLemmas
mod WillLemmas
mod SleepLemmas
pub mod Crossing
pub mod HoldingsMade
