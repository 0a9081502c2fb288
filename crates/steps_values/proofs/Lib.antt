pub mod ValueLaws
pub mod SendValues
