pub mod Buffers
pub mod Notes
pub mod Prompts
pub mod Rules
mod Characters
mod Forms
