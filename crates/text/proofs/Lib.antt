pub mod Decodes
mod LineEnds
pub mod Spelling
mod Simple
pub mod Styling
pub mod Testing
mod Runs
mod Walks
mod Places
mod Cutting
