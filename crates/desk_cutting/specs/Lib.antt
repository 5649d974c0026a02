pub mod Cutting
pub mod Answering
pub mod Reading
