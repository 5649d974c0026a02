pub mod RequestLaws
pub mod AttemptLaws
pub mod FinishLaws
