pub mod Performed
pub mod TopWords
pub mod TopEndings
pub mod DiskOpenings
pub mod DiskEndings
