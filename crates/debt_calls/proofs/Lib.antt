pub mod ListingLaws
pub mod PlanLaws
pub mod Worked
