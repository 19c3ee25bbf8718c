pub mod Linked
pub mod LinkedKept
pub mod LinkedEp
