mod Assigning
mod Writing
