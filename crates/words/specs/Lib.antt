pub mod Answers
pub mod Words
