pub mod Levels
pub mod Written
