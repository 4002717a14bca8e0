mod Entries
mod Finding
mod Kept
mod LastWrites
mod Noting
mod Numbers
mod Results
mod Variables
