pub mod HandingPlans
pub mod HandingRows
pub mod DeliveringClient
pub mod DeliveringBusy
pub mod DeliveringRows
pub mod Plain
pub mod Found
pub mod ConfirmLemmas
pub mod ServingRows
pub mod ConfirmRows
pub mod SleepRows
pub mod AgainRows
pub mod Asked
pub mod Rows
pub mod PublishRows
pub mod ReceiveRows
pub mod IdleRows
pub mod SubscribeRows
pub mod OneEnds
pub mod UnsubscribeEnds
pub mod UnsubscribeHeld
pub mod UnsubscribeRows
pub mod ReplacingSteps
pub mod ReplacingHeld
pub mod ReplacingEnding
pub mod ReplacingClient
pub mod ReplacingLost
pub mod Replacing
pub mod RefusedFilters
mod RefusedPlaces
pub mod Refusing
pub mod Releasing
pub mod ReleasingLink
pub mod ConnectingKnown
pub mod ConnectingBeside
pub mod ConnectingReleases
pub mod ConnectingServed
pub mod ConnectingNext
pub mod Connected
pub mod RunLemmas
mod StatingLemmas
mod DueLemmas
mod RoomLemmas
pub mod TickLosses
pub mod TickRows
pub mod StatingAsks
pub mod StatingParts
pub mod StatingRows
pub mod RequestRows
pub mod Crossing
mod EndingRows
mod Passing
