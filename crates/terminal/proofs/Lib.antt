pub mod Writes
pub mod Sizes
