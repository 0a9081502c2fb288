pub mod Added
mod Lines
mod First
mod Escapes
mod Flags
mod Walk
mod Found
mod CauseRules
mod Merging
mod KeyRules
mod Telling
mod TrailRules
