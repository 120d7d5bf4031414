pub mod Contents
pub mod Framed
pub mod Lost
pub mod Recorded
