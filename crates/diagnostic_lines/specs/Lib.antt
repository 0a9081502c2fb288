pub mod Excerpts
pub mod Lines
pub mod Pairs
pub mod Places
pub mod FaultLines
