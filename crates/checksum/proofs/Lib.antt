pub mod Blocks
pub mod Lookups
pub mod Missed
