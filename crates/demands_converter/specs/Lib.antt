pub mod OldStore
pub mod Boxes
