pub mod Optionals
pub mod Parting
pub mod Spelling
