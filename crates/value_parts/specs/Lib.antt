pub mod Objects
pub mod BoundObjects
