mod Counts
pub mod SessionRules
pub mod NextRules
