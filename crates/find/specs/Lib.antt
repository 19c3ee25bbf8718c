pub mod Answers
pub mod Line
pub mod Part
pub mod NamedLine
