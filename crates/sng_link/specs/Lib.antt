pub mod Flights
pub mod Steps
pub mod Taking
pub mod Resending
pub mod Rooms
