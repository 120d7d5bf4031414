pub mod Accounting
pub mod Answering
pub mod Folding
pub mod Reading
pub mod Readings
pub mod Taking
pub mod Telling
pub mod Views
