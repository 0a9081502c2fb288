pub mod Tree
pub mod Index
pub mod Sig
pub mod ClassTrees
pub mod NamedHeaders
pub mod Header
pub mod Method
pub mod Laws
