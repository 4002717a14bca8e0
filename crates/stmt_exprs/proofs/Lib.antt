mod Behinds
mod Bracketed
mod Onward
mod Wanted
