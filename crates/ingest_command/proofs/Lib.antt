pub mod TextRead
pub mod FaultEnds
pub mod FeedEnds
