pub mod AnswerKind
