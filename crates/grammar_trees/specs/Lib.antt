pub mod Spelling
pub mod Binding
pub mod Trees
pub mod Lists
pub mod Frames
pub mod Machine
pub mod Reading
pub mod Worked
