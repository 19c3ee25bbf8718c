pub mod Rows
pub mod Sums
pub mod Exactly
pub mod OneAnswer
