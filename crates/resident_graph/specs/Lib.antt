pub mod Places
pub mod Lists
pub mod Runs
pub mod Graphs
