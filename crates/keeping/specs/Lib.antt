pub mod Follows
pub mod Kept
pub mod Readers
pub mod Keeping
