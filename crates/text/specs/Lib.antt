pub mod Answers
pub mod Among
pub mod Characters
pub mod Numbers
pub mod Placing
pub mod Same
