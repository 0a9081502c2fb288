pub mod Entries
pub mod KeyPlaces
pub mod Meant
pub mod SourceRules
pub mod PlanRules
pub mod GreenRules
pub mod StepRules
pub mod PlaceRules
