pub mod Histories
pub mod Meanings
pub mod Runs
