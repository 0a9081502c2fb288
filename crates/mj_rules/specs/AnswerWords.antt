-- The words for answers and for refused projects, passed on to the crates above.
pub use Rattle.mj_answer.specs.AnswerValues.{ClassAnswerValue, AnswerValue}
pub use Rattle.mj_answer.specs.Codes.{code_number}
pub use Rattle.mj_answer.specs.Text.{text_of}
pub use Rattle.mj_answer.specs.declared.diagnostic.Diagnostic.{Diagnostic}
pub use Rattle.named_files.specs.declared.project.ProjectFault.{ProjectFault}
pub use Rattle.named_files.specs.declared.project.ProjectFault.TheVariants.{RepeatedFile, NoFiles, TooManyFiles, BadFileName, OutOfMemory}
