pub mod Runs
pub mod Quiet
pub mod Classes
pub mod MainClass
pub mod Inside
pub mod Found
pub mod Files
