pub mod Checks
pub mod Lines
pub mod Auditing
pub mod ChainWords
pub mod Chains
pub mod Checking
pub mod Refusals
pub mod Scratching
