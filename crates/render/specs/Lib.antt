pub mod Composing
pub mod Drawing
pub mod Notices
pub mod Numbering
pub mod Updates
