pub mod Bodies
pub mod Indexes
pub mod Storing
