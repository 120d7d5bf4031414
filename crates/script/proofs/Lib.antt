pub mod Tokens
pub mod Drained
pub mod Histories
pub mod Lawfully
pub mod Whole
