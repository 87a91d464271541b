pub mod Screen
pub mod Bytes
pub mod Sequences
pub mod Output
pub mod Laws
pub mod Pages
pub mod Places
