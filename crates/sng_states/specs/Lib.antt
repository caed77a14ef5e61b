pub mod States
pub mod Silence
pub mod OpenIds
pub mod Laws
pub mod LawsOpenIds
