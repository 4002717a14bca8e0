pub mod NameLemmas
pub mod Numbers
