mod Reporting
pub mod Turns
mod Changing
mod Answering
mod Answered
