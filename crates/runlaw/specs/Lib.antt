pub mod History
pub mod Packets
pub mod Fair
pub mod Law
pub mod Writing
pub mod Theorem
pub mod Examples
pub mod Trials
