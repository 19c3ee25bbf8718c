pub mod State
pub mod Bounds
pub mod Stored
pub mod Checks
pub mod Step
pub mod Values
pub mod NonDigits
