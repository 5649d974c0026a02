pub mod Bucket
pub mod Debt
