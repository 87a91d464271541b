pub mod Parts
pub mod Papers
pub mod Rows
pub mod Writes
