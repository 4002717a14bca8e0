pub mod Below
pub mod InTurn
pub mod Numbered
pub mod ShapeView
pub mod Takings
