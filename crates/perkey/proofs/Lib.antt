pub mod PeekLaws
pub mod KnownLaws
pub mod EdgeLaws
