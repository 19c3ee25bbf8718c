pub mod Answers
pub mod Dropping
pub mod Inner
pub mod Effect
pub mod WhenRefused
pub mod WhatIsLeft
