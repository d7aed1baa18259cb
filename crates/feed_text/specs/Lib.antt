pub mod Streams
pub mod MemStreams
pub mod Lines
pub mod Grammar
pub mod Replies
pub mod Reading
pub mod Words
pub mod Faults
