pub mod Layout01
pub mod Checks
pub mod Forth
pub mod code
