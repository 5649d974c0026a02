pub mod FaultLaws
pub mod KindLaws
pub mod ReasonLaws
pub mod WalkLaws
pub mod Worked
