pub mod Adjacent
pub mod SpineLaws
pub mod Halving
pub mod ContentLaws
