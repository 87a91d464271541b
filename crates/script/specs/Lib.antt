pub mod Strings
pub mod Numbers
pub mod Fields
pub mod Wrongs
pub mod Defaults
pub mod Acts
pub mod Settings
pub mod Scripts
