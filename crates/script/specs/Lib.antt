pub mod Hands
pub mod Answers
pub mod Steps
pub mod Events
pub mod Scripts
