pub mod Flaws
pub mod ScopePlaces
pub mod LimitPlaces
pub mod Places
pub mod Order
pub mod Standing
pub mod Laws
