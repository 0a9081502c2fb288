pub mod Programs
pub mod Steps
pub mod Bounds
pub mod Body
pub mod Laws
