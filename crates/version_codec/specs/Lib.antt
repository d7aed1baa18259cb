pub mod Versions
pub mod Reading
pub mod KeySets
