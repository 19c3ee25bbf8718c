pub mod Answers
pub mod Slots
pub mod Sheet
pub mod Filled
pub mod Walk
pub mod Contents
