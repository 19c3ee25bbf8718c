pub mod Answers
pub mod Correction
pub mod Effect
pub mod WhenRefused
pub mod Touched
pub mod Writing
