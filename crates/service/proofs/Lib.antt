pub mod Asked
pub mod Lawfully
pub mod Maps
pub mod Puts
pub mod Respelled
pub mod Rewritten
pub mod Spelled
pub mod Whole
