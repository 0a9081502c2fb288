pub mod Words
pub mod Messages
pub mod Faults
pub mod Feeding
pub mod Steps
