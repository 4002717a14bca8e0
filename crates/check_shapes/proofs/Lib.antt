mod AnyForm
mod Gathered
mod Lists
mod Places
mod Turns
