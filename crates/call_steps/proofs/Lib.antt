pub mod Coming
pub mod Items
pub mod Leaving
pub mod Passing
pub mod Requests
pub mod Waits
