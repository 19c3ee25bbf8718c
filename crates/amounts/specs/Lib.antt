pub mod Outcomes
pub mod Amounts
pub mod Names
pub mod Dates
