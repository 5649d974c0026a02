pub mod Walk
pub mod Exact
pub mod Layout
pub mod code
