pub mod Reruns
pub mod Logs
pub mod Passes
pub mod Audits
pub mod Projects
pub mod Refusals
pub mod RightChains
pub mod Sums
