pub mod Answers
pub mod Lenient
pub mod Inner
