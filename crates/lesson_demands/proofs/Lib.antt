pub mod ValueBounds
pub mod FitLaws
pub mod Theorem
