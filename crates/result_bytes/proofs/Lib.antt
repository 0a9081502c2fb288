pub mod ValueLaws
pub mod SendTrees
pub mod SendAnswers
pub mod SendValues
