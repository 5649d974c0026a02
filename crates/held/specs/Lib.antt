pub mod Held
pub mod Round
pub mod Layout
