pub mod Descending
pub mod Meeting
pub mod Results
pub mod Taking
pub mod Turns
pub mod Wanting
