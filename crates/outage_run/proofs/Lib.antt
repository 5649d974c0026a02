pub mod RunLaws
pub mod StepLaws
pub mod FeedingLaws
