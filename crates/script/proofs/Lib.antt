pub mod Spellings
pub mod Progress
