pub mod Keeping
pub mod Working
pub mod KeepingOn
pub mod Competing
pub mod Completing
pub mod Hearing
