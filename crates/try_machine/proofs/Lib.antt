pub mod Beginning
pub mod Effects
pub mod Keeping
pub mod Places
pub mod Preparing
pub mod Readying
pub mod Tries
pub mod Ways
