pub mod Deeds
pub mod Playing
pub mod Standings
pub mod Scripts
pub mod EventLaws
