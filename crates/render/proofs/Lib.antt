pub mod Writes
pub mod Drawings
mod Buffers
mod Digits
mod Moves
mod Answering
mod Styling
