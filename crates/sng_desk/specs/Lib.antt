pub mod Sights
pub mod Spans
pub mod Acts
pub mod Pieces
pub mod Sources
pub mod Working
