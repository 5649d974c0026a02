pub mod Lesson
pub mod Written
