pub mod Few
mod Reading
