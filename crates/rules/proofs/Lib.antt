pub mod Arrays
pub mod Reading
pub mod Growth
pub mod Numbers
pub mod NonDigits
pub mod Others
pub mod SameName
