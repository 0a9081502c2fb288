pub mod Parts
pub mod Keys
pub mod Reading
pub mod Hashing
pub mod Feeding
pub mod Records
