pub mod Run
pub mod Feeding
