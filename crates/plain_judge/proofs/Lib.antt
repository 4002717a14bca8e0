mod Moves
mod Next
mod Results
mod Staying
mod Steps
