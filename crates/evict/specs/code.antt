pub mod Awaited
pub mod Row
