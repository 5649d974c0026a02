pub mod SegmentLaws
pub mod RowLaws
pub mod SumLaws
pub mod LowestLaws
pub mod OutcomeLaws
pub mod ZeroLaws
