pub mod Prefix
pub mod Naming
