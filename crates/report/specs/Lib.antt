pub mod Printed
pub mod Appended
