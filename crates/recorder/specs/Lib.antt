pub mod Projects
pub mod Backed
pub mod Recording
pub mod Places
pub mod Runs
pub mod Programs
pub mod Codes
