pub mod Used
pub mod OneDelega
pub mod PlainDelega
