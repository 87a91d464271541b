pub mod Heights
pub mod Judgements
pub mod Fitting
