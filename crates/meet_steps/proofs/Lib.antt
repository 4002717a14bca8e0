pub mod Behind
pub mod Coming
pub mod Firsts
pub mod Moving
pub mod Values
pub mod Waits
