pub mod Firsts
pub mod BodyRanks
pub mod Ranks
