pub mod Adding
pub mod Comparing
pub mod Equality
