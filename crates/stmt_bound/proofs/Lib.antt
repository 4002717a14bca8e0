mod Begun
mod Views
