pub mod Sending
pub mod Told
