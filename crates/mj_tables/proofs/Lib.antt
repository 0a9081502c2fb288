pub mod Behind
pub mod Declaring
pub mod Finding
pub mod Over
pub mod TableSteps
