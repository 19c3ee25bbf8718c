pub mod Dotted
pub mod Texts
pub mod Reading
pub mod Inverse
pub mod Samples
pub mod OneAnswer
