pub mod Lines
pub mod Stored
pub mod Notes
pub mod Notices
pub mod Forms
pub mod Prompts
