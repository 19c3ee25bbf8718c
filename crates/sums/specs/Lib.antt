pub mod LineSums
pub mod Inner
