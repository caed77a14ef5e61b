pub mod Books
pub mod Mismatches
pub mod Comparing
pub mod Judging
pub mod Reports
pub mod Founds
pub mod Outcomes
