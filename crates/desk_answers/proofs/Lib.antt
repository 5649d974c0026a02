pub mod DeskLaws
pub mod WaitLaws
