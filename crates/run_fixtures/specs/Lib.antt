pub mod Reading
pub mod Asking
pub mod Meaning
pub mod Phrases
pub mod Programs
pub mod View
pub mod Tie
