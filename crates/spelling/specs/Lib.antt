pub mod Answer
pub mod Decimal
pub mod Faults
pub mod Hex
pub mod Lines
pub mod Optional
pub mod Words
