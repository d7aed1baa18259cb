pub mod Saws
pub mod Sources
pub mod Feeds
pub mod Replies
