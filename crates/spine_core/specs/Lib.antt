pub mod Places
pub mod Spines
pub mod Settled
pub mod Contents
