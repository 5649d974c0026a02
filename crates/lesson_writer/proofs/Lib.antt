pub mod WritingLaws
pub mod ReadBackLaws
