pub mod Answers
pub mod Total
