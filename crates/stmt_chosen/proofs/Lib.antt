mod Begun
mod Listed
mod Viewed
mod Views
