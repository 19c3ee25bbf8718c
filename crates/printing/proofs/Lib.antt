pub mod Widths
pub mod Appending
pub mod Samples
pub mod OneAnswer
