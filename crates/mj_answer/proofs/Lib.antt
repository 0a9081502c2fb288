pub mod Orders
pub mod Compared
pub mod Searches
