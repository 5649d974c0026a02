pub mod CutLaws
pub mod KeptLaws
pub mod WrittenLaws
pub mod AnsweringLaws
pub mod UnderwayLaws
pub mod ReadingLaws
