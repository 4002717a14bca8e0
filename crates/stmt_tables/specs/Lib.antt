pub mod Topics
pub mod View
