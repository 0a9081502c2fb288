-- What is written of a session.
use Rattle.std.specs.Prelude.{◌≡◌, ◌++◌, ℕ, Bool, List, string_bytes}
use Rattle.named_files.specs.Projects.{SourceFile}
use Rattle.mj_rules.specs.AnswerWords.{AnswerValue, text_of}
use Rattle.sessions.specs.Sessions.{SessionValue}
use Rattle.commands.specs.Checks.{IsAnswerIn}
use Rattle.commands.specs.Lines.{summary_line}
use Rattle.diagnostic_lines.specs.Lines.{IsFaultText, is_clean}
use Rattle.commands.specs.declared.texts.AnswerTexts.{AnswerTexts}

-- The text of the session's answer, and behind the notes a line for each of its diagnostics with its
-- place in the files, with its sentence and its source line if they are wanted, and a line on the
-- session.
pub record AreSessionTexts (files : List SourceFile) (messages : Bool) (notes : List ℕ)
    (session : SessionValue) (texts : AnswerTexts) : Type 0 where
  pub answer : AnswerValue
  pub recorded : IsAnswerIn session answer
  pub text : string_bytes texts.answer ≡ text_of answer
  pub lines : List ℕ
  pub places : IsFaultText messages files answer lines
  pub told : string_bytes texts.notes ≡ notes ++ lines ++ summary_line session
  pub clean : texts.clean ≡ is_clean answer
