pub mod Edits
pub mod Firsts
pub mod Faults
