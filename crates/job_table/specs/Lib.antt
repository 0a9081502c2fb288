pub mod Tables
pub mod Kept
pub mod Walks
pub mod Calls
pub mod Replays
pub mod Closes
