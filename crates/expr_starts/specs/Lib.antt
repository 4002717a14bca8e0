pub mod Innermost
