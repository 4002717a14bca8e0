pub mod Light
