pub mod Settled
pub mod Changes
pub mod Lists
pub mod Results
pub mod Keep
pub mod Adding
pub mod Same
