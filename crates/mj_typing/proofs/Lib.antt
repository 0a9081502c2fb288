pub mod Checks
pub mod Mistakes
pub mod Views
pub mod Walks
