pub mod Listed
pub mod RepeatLemmas
pub mod ProjectLemmas
