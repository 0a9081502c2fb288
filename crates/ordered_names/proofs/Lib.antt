pub mod Alike
pub mod Orders
