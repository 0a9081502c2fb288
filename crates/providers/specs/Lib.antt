pub mod Programs
pub mod Laws
pub mod AnswerValues
