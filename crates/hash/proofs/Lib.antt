pub mod ProductLaws
pub mod FnvLaws
pub mod Vectors
