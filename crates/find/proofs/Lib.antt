pub mod ByKinds
pub mod Subtypes
pub mod NthIn
pub mod LinesSoFar
pub mod NamedLine
pub mod Search
pub mod FoundPart
pub mod OneAnswer
