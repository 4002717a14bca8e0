mod ByNames
mod FineLemmas
mod Noted
mod Turns
