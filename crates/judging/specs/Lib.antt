pub mod Judgements
pub mod Fitting
