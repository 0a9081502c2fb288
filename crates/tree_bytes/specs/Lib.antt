pub mod Bodies
pub mod BodyViews
pub mod Stored
pub mod BodyLaws
pub mod NamedBodies
pub mod Indexes
