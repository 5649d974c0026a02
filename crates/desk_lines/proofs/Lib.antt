pub mod FieldLaws
pub mod ReadingLaws
pub mod LineLaws
pub mod PrintLaws
pub mod Worked
