pub mod TextTokens
pub mod Counts
pub mod Storing
