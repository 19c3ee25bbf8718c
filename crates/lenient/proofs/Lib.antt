pub mod KeptFields
pub mod Judging
pub mod OneAnswer
pub mod Mends
pub mod VeryCharacter
