pub mod Verdicts
pub mod Rows
pub mod Phrases
pub mod Bodies
pub mod Wells
pub mod Scopes
pub mod Answers
