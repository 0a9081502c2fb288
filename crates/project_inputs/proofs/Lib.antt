pub mod InputRules
pub mod SourceRules
pub mod SealedRules
