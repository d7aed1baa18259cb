pub mod PlainRuns
pub mod RunFaults
pub mod Endings
pub mod Sessions
pub mod Settling
pub mod Drives
pub mod Compacting
pub mod Answering
