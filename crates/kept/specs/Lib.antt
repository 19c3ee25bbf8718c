pub mod Answers
pub mod Keeping
pub mod Inner
pub mod WhenRefused
pub mod Series
