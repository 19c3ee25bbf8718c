pub mod Records
pub mod Chunked
pub mod Turn
mod NumberedTurn
mod WaysOut
pub mod Accepted
pub mod Counts
pub mod PlainSums
pub mod ChecksInOrder
pub mod FirstFault
pub mod VeryCharacter
pub mod OneAnswer
pub mod OwnNumbers
pub mod DateExists
pub mod CodeExists
pub mod Zeros
