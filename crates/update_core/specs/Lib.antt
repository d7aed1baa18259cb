pub mod Limits
pub mod Frontiers
pub mod Totals
pub mod Weights
pub mod Updates
pub mod Collections
