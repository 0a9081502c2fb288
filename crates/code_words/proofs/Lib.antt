pub mod Found
pub mod Lines
