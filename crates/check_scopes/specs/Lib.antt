pub mod Below
pub mod Seen
pub mod SeenAgain
pub mod Told
