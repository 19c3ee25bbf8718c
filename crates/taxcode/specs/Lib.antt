pub mod Places
pub mod Persons
pub mod Firms
pub mod TaxCodes
