pub mod Positions
pub mod Feeds
pub mod FirstMethods
pub mod Readings
