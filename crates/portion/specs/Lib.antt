pub mod Portion
pub mod Inner
pub mod Series
