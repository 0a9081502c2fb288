pub mod Signatures
pub mod Told
pub mod CheckClass
pub mod Trees
pub mod ProjectFaults
pub mod Answer
pub mod Laws
