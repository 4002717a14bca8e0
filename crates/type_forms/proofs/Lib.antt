mod Below
mod Lists
mod Members
mod Nothing
mod Steps
mod Turns
mod TypeSteps
