pub mod Parts
pub mod Handed
