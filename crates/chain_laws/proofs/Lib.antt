pub mod GoingOn
mod NoNeed
mod Made
pub mod OwnFiles
