pub mod Asking
pub mod Sending
pub mod Answers
pub mod Outgoings
pub mod Rings
pub mod Patterns
pub mod Fading
