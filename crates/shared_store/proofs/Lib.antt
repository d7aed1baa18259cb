pub mod Sightings
pub mod Crossing
pub mod Failures
pub mod Keeping
