pub mod Deeds
pub mod Running
pub mod Observing
