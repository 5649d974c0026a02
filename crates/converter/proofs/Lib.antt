pub mod ShardLaws
pub mod RefusalLaws
pub mod MoveLaws
pub mod MovedLaws
pub mod Theorem
pub mod Worked
