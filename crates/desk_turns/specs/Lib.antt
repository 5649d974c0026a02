pub mod Feeding
pub mod Run
