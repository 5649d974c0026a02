pub mod ReadLaws
pub mod WriteLaws
pub mod ReadBackLaws
pub mod Worked
