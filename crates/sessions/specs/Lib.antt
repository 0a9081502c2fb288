pub mod Marks
pub mod Terms
pub mod Sessions
pub mod Edges
pub mod Refusals
pub mod Spelling
