pub mod Answering
pub mod Checks
pub mod Refusals
pub mod Right
