pub mod Opening
pub mod Shapes
pub mod Tests
pub mod Worked
