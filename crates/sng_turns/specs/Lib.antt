pub mod HandingOver
pub mod Delivering
pub mod Serving
pub mod Again
