pub mod Buffers
pub mod Repeats
pub mod Spares
