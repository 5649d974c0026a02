pub mod Row
pub mod Prepared
