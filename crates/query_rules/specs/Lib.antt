pub mod Items
pub mod Meaning
pub mod BodyReads
pub mod Reads
pub mod Queries
pub mod Ties
pub mod Laws
