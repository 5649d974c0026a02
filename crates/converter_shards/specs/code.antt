pub mod RowChecks
pub mod Carried
