pub mod Demands
pub mod Faults
pub mod PhraseLaws
pub mod Typing
pub mod ProjectLaws
