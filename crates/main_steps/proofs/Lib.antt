pub mod Evaluating
pub mod Fitting
pub mod Numbers
