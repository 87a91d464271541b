pub mod Brackets
pub mod Answers
pub mod Lighting
pub mod Shown
pub mod Partners
pub mod Balances
