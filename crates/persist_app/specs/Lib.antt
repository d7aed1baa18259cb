pub mod Endings
pub mod PlainEnds
pub mod TopEnds
pub mod DiskLines
pub mod DiskLefts
