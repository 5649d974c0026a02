pub mod Before
pub mod Decision
pub mod Eviction
pub mod Powers
pub mod Rate
pub mod Refusal
pub mod Settings
