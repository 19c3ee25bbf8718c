pub mod Appending
pub mod SectionLines
pub mod Samples
pub mod OneAnswer
