pub mod Lengths
pub mod Listed
pub mod Marked
