pub mod Turns
pub mod Ends
