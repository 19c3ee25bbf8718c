pub mod Answers
pub mod Mending
pub mod Inner
pub mod WhenRefused
pub mod Effect
