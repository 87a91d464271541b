pub mod Positions
pub mod Measuring
pub mod Drawing
pub mod Laying
