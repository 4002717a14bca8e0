pub mod FrontRead
