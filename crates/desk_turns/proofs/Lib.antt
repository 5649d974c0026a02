pub mod FeedingLaws
pub mod NoteLaws
pub mod RunLaws
pub mod Worked
pub mod CuttingLaws
