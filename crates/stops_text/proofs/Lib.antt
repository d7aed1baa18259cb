pub mod Cuts
pub mod StopWords
