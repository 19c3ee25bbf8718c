pub mod Sizes
pub mod FieldByField
pub mod ValuesRead
pub mod CleanRecords
