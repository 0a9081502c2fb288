pub mod Firsts
pub mod PastKeys
pub mod Chains
pub mod Sources
pub mod Greens
pub mod Plans
pub mod Steps
pub mod Replays
