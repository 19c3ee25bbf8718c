pub mod Standing
pub mod Fitting
