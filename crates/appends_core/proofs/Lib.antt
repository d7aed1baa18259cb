pub mod FeedSteps
pub mod Ranges
