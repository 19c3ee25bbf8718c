pub mod Decimal
pub mod Appended
