pub mod Leaves
pub mod Workers
pub mod Ensures
pub mod Moves
