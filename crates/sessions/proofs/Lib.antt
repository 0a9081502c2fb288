pub mod Lists
pub mod EdgeLaws
pub mod RecordLaws
pub mod EntryRules
pub mod TermLaws
