pub mod Rows
pub mod Items
pub mod Literals
pub mod Values
pub mod Names
pub mod Lending
