pub mod Statements
pub mod Declarations
pub mod Rows
pub mod StatementReading
pub mod FileReading
pub mod Locations
pub mod Laws
pub mod MarkBounds
