mod AtOnce
mod Binds
mod Bracketed
mod Copied
mod Going
mod Results
mod Sources
