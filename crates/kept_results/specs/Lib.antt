pub mod Rows
pub mod Mains
pub mod Changes
pub mod Laws
