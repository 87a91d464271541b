pub mod Hints
pub mod Scripts
