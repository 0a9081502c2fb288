pub mod Limits
pub mod Trees
pub mod Views
