pub mod Programs
pub mod Runs
pub mod Sessions
