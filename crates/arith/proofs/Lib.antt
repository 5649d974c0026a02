pub mod Cases
pub mod DivisionLaws
pub mod ProductLaws
