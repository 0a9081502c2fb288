pub mod Runs
pub mod Following
pub mod Kept
pub mod Readers
