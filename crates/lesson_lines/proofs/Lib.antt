pub mod ReadingLaws
pub mod SizeLaws
pub mod LetterLaws
pub mod StepLaws
