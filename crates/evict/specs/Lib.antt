pub mod Evict
pub mod code
