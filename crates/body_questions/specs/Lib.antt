pub mod Classes
pub mod Members
pub mod Questions
