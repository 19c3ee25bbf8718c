pub mod Answers
pub mod Payments
pub mod Stream
pub mod Bounds
pub mod Plain
