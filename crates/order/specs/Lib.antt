pub mod Stages
pub mod Order
