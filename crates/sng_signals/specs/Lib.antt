pub mod Reaches
pub mod Stamps
