pub mod Limits
pub mod Windows
pub mod Answers
pub mod Recording
pub mod Writing
pub mod Feeds
pub mod Insides
