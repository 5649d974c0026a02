pub mod SizeLaws
pub mod ShortestLaws
pub mod LongestLaws
pub mod ReadBackLaws
pub mod WritingLaws
pub mod Worked
