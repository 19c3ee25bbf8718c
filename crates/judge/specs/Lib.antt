pub mod Refusal
pub mod Flow
pub mod Plain
pub mod Part
pub mod Ending
pub mod Run
