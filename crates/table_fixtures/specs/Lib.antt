pub mod Told
pub mod Called
pub mod Reported
