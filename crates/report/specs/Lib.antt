pub mod Words
pub mod Names
pub mod Tallies
pub mod Entries
pub mod Complete
pub mod Walking
