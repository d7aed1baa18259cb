pub mod Offsets
pub mod Bound
pub mod Reclocking
pub mod Refusals
pub mod RemapShards
pub mod Extending
pub mod Laws
