pub mod Answers
pub mod Writing
pub mod Settling
pub mod WhenRefused
pub mod Effect
