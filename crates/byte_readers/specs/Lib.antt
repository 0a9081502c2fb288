pub mod Names
pub mod Spelling
pub mod Reading
pub mod Orders
pub mod Lawful
pub mod Laws
pub mod Views
