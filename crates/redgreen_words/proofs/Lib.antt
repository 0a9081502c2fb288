pub mod Takings
pub mod Spelled
pub mod Numbers
pub mod Unique
pub mod Steps
pub mod Putting
