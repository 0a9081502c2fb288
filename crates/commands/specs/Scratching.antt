-- What is written of a project that is checked from its files alone.
use Rattle.std.specs.Prelude.{◌≡◌, Bool, List, string_bytes}
use Rattle.named_files.specs.Projects.{SourceFile}
use Rattle.mj_rules.specs.AnswerWords.{AnswerValue, text_of}
use Rattle.mj_rules.specs.Rules.{Rules}
use Rattle.profiles.specs.declared.profile.Profile.{Profile}
use Rattle.diagnostic_lines.specs.Lines.{IsFaultText, is_clean}
use Rattle.commands.specs.declared.texts.AnswerTexts.{AnswerTexts}

-- The answer that the rules of the profile give the files: its text, a line for each of its diagnostics
-- with its place, with its sentence and its source line if they are wanted, and whether it has none.
pub record AreScratchTexts (profile : Profile) (messages : Bool) (files : List SourceFile)
    (texts : AnswerTexts) : Type 0 where
  pub answer : AnswerValue
  pub rules : Rules profile files answer
  pub text : string_bytes texts.answer ≡ text_of answer
  pub lines : IsFaultText messages files answer (string_bytes texts.notes)
  pub clean : texts.clean ≡ is_clean answer
