pub mod Bounds
pub mod Meaning
pub mod Steps
pub mod Fitting
pub mod Takings
