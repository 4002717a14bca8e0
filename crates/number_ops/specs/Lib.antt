pub mod Exponents
