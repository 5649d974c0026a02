pub mod code
pub mod Edges
