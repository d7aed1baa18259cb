pub mod Trails
pub mod Fronts
pub mod Passes
pub mod Owners
