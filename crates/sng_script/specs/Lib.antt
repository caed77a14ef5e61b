pub mod Statuses
pub mod Lines
pub mod Obstacles
pub mod Refused
pub mod Input
pub mod Laws
pub mod EventTexts
pub mod Digits
