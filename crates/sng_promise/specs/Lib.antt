pub mod Examples
pub mod ExamplesClients
pub mod ExamplesOnce
pub mod ExamplesWills
pub mod ExamplesSleep
pub mod ExamplesBooks
pub mod ExamplesLimits
