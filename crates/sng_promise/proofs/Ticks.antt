-- What a tick of the clock does: who is lost, and what is sent again.
pub mod LawRetries
pub mod LawTicks
pub mod LawUnlost
pub mod LawLost
pub mod LawClock
