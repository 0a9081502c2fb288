pub mod Codes
pub mod Tables
