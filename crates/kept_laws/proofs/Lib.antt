pub mod Taking
pub mod Climbing
pub mod Answering
pub mod Tests
