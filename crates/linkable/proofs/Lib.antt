pub mod Buffers
pub mod Lines
pub mod PastRules
pub mod Tells
