pub mod IoLemmas
pub mod Items
pub mod Numbering
pub mod Placing
pub mod Ranges
