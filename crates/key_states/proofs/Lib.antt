pub mod NodeRules
pub mod PendingRules
pub mod KeptRules
pub mod ReachRules
pub mod SetRules
pub mod FoundRules
pub mod RowRules
pub mod RecordRules
