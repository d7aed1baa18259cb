pub mod Asking
pub mod Beginning
pub mod Following
pub mod Machining
pub mod Polling
pub mod Reading
