pub mod Believed
pub mod Failures
pub mod Opened
pub mod Progress
pub mod Runs
pub mod Shown
pub mod Streams
pub mod Taking
mod Crossing
mod Sources
