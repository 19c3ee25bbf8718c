pub mod Rebalance
pub mod Weigh
pub mod Places
pub mod Numbering
