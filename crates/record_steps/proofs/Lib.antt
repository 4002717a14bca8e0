pub mod AtPlaces
pub mod Moving
