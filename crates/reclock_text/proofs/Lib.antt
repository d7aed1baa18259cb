pub mod Words
pub mod PairWords
pub mod SawWords
pub mod SourceWords
pub mod Lines
pub mod Leading
pub mod Bindings
pub mod OneFeed
