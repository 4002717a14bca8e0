pub mod Below
pub mod Fine
pub mod Named
pub mod NoRefusal
