pub mod Coming
pub mod Judged
pub mod Rendered
pub mod Walks
mod Zeros
