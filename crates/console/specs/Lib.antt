pub mod Examining
pub mod Verbs
pub mod Commands
