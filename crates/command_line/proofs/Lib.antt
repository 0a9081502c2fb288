mod ToldRows
pub mod Faults
pub mod Options
pub mod Rules
mod Uses
pub mod Walks
pub mod PlainWords
pub mod ProgramWords
pub mod PlainRequests
