pub mod Changes
pub mod Sessions
