pub mod State
pub mod ClassObjects
pub mod AtObject
pub mod Ready
pub mod Order
pub mod Finishes
