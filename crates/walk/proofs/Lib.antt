pub mod EachRecord
pub mod Refusals
pub mod OneAnswer
