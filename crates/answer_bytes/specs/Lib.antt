pub mod Canon
pub mod Storable
pub mod Reading
pub mod OrderLaws
pub mod AnswerLaws
