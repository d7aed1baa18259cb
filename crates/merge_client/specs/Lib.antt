pub mod Beginning
pub mod Finding
pub mod Fitting
pub mod Following
pub mod Machining
pub mod Merging
pub mod Polling
