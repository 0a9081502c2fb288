pub mod Names
pub mod Opened
pub mod Starts
