pub mod Following
pub mod Legality
pub mod Outcomes
pub mod Storings
