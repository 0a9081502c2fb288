pub mod Reordered
pub mod Stuck
pub mod Legally
