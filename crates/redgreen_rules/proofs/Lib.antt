pub mod Fresh
pub mod Growing
