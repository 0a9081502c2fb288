pub mod Prints
pub mod Opening
