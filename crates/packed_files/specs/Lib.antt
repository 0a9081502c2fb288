pub mod FlawWords
pub mod Packing
pub mod Runs
pub mod Unpacking
