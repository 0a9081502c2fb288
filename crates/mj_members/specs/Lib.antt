pub mod Classes
pub mod Declarations
pub mod Rows
pub mod Tables
