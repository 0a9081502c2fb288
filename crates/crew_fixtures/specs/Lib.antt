pub mod Made
pub mod Workers
