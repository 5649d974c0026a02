pub mod Segments
pub mod Rows
pub mod Places
pub mod Outcome
