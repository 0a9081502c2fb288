pub mod Spots
pub mod Laws
