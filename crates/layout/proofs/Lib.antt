pub mod Walking
pub mod Ending
pub mod GoodTexts
