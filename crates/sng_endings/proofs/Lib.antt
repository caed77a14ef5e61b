pub mod Planning
pub mod Rehearsed
