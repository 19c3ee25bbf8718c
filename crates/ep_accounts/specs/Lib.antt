pub mod Answers
pub mod Accounts
pub mod Printed
