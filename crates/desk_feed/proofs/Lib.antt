pub mod RanLaws
pub mod Refutations
