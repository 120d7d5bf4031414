pub mod Header
pub mod Judging
pub mod Placing
pub mod Fragments
pub mod Giving
pub mod Words
