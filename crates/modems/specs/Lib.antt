pub mod Address
pub mod Names
