pub mod Padding
pub mod Padded
