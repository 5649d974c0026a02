pub mod Worked
pub mod BucketLaws
pub mod DebtLaws
pub mod ToldLaws
