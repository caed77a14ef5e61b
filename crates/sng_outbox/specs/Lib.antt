pub mod Flights
pub mod Laws
pub mod PacketIds
pub mod Sending
