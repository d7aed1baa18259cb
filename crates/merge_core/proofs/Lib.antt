pub mod Lengths
pub mod Drafted
