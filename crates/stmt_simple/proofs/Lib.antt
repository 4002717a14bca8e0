mod Begun
mod Noted
mod Views
