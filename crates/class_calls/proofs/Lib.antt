pub mod PassLaws
pub mod RefusedTries
pub mod EdgeLaws
