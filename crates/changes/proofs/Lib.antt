pub mod Placed
pub mod FieldsWritten
pub mod Listing
pub mod Listed
