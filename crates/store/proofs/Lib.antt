pub mod MemoryLaws
pub mod RefusalLaws
pub mod LendingLaws
pub mod ClassLaws
