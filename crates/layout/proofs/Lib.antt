pub mod Table
pub mod Decision
pub mod Within
pub mod OtherKinds
pub mod Spelled
pub mod InTable
pub mod Amounts
pub mod InOrder
