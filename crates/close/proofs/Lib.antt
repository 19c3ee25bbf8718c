pub mod Named
pub mod Counted
pub mod Spaces
pub mod Closed
