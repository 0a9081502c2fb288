pub mod Merging
pub mod Knowing
pub mod Naming
pub mod Running
