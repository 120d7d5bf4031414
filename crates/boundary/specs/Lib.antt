pub mod Hands
pub mod Untold
