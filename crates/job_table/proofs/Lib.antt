pub mod StepRules
pub mod EventRules
pub mod WalkRules
pub mod CallRules
pub mod ReplayRules
pub mod StaleRules
pub mod CloseRules
