pub mod Words
pub mod OneAnswer
