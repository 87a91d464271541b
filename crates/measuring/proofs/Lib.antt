pub mod Reaching
pub mod Walking
pub mod Lining
pub mod Fitting
