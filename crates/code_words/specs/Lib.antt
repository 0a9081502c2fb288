pub mod Sentences
pub mod Words
pub mod Explained
