pub mod Keys
pub mod Through
