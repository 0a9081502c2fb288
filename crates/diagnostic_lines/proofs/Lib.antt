pub mod Clean
pub mod Near
pub mod Marks
pub mod Pairs
pub mod MoreFiles
pub mod TokenBytes
pub mod Names
