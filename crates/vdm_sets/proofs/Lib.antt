mod Neighbours
mod Sorted
