pub mod Histories
pub mod Orders
pub mod Cycles
