pub mod Beginnings
pub mod Readings
pub mod Closings
pub mod Answers
pub mod Visits
pub mod Parcels
pub mod Bags
