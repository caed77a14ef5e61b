pub mod Marks
pub mod Owing
pub mod Parting
pub mod Planning
pub mod Renewing
pub mod Rooms
pub mod Taken
pub mod Wanting
