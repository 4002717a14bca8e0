pub mod Fitting
mod Slots
