pub mod Changes
pub mod Inner
pub mod Listed
