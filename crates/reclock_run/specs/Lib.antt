pub mod Texts
pub mod Working
