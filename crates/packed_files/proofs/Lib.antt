pub mod Laws
pub mod RunSteps
pub mod Steps
