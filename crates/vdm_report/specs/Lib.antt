pub mod Ends
pub mod Halted
pub mod Named
pub mod Outside
pub mod Written
