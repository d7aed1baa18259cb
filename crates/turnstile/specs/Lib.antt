pub mod History
pub mod Rule
pub mod Plays
pub mod Passes
pub mod Turns
pub mod Lent
pub mod Counting
