pub mod NameRules
pub mod Appending
pub mod Wholes
pub mod Chains
