pub mod Texts
pub mod Lines
pub mod Blocks
pub mod Counting
pub mod Leading
pub mod OneFeed
