pub mod CountLaws
pub mod StandInLaws
pub mod Theorem
pub mod ForthFits
pub mod WindowTheorem
pub mod OneListTheorem
pub mod BoxTheorem
