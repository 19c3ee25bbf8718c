pub mod Header
pub mod Marks
