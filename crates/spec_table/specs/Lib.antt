pub mod Among
pub mod Answering
pub mod Meanings
pub mod Members
pub mod NoFault
pub mod Ranked
pub mod Tables
