pub mod Accounts
pub mod Done
pub mod Folds
pub mod Handed
pub mod Limits
pub mod Slots
pub mod Steps
