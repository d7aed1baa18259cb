pub mod Fields
pub mod Loop
pub mod Parts
pub mod Rising
pub mod Refused
pub mod RefusedRows
pub mod RefusedTold
pub mod Spelled
