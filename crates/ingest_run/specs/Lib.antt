pub mod Looking
pub mod Idling
pub mod Bounds
pub mod Verdicts
pub mod PlainIngests
pub mod Ends
pub mod Halts
