pub mod Asking
pub mod Words
