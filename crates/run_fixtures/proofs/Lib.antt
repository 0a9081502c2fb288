pub mod Zips
pub mod Asked
pub mod Parts
