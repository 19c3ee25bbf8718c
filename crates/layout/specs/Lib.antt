pub mod Sections
pub mod Kinds
pub mod Fields
pub mod Forms
pub mod Decision
