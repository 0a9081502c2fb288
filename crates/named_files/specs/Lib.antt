pub mod Projects
pub mod Repeats
