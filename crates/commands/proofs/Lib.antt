pub mod Answered
pub mod Beginnings
pub mod Added
