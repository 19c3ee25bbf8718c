pub mod Outcomes
pub mod Spelling
pub mod Examples
pub mod Calendar
