pub mod Published
pub mod Superframes
pub mod Frames
pub mod Losses
pub mod Headers
pub mod Examples
pub mod Edges
pub mod HeaderEdges
