-- What is written of an accepted chain.
use Rattle.std.specs.Prelude.{◌≡◌, ◌++◌, ℕ, List, codes, decimal, string_bytes}
use Rattle.mj_rules.specs.AnswerWords.{AnswerValue, text_of}
use Rattle.result_bytes.specs.declared.value.Value.{Value}
use Rattle.result_bytes.specs.declared.value.Value.TheVariants as values
use Rattle.commands.specs.declared.auditing.AuditTexts.{AuditTexts}

-- accepted: 3 sessions, 22 runs
abbrev pub accepted_line : ℕ → ℕ → List ℕ
accepted_line sessions runs =
    codes "accepted: " ++ decimal sessions ++ codes " sessions, " ++ decimal runs
    ++ codes " runs\n"

-- The text of the answer, and the line on the chain.
pub record AreAcceptedTexts (v : Value) (sessions runs : ℕ) (texts : AuditTexts) : Type 0 where
  pub answer : AnswerValue
  pub value : v ≡ values.Answer answer
  pub text : string_bytes texts.answer ≡ text_of answer
  pub line : string_bytes texts.notes ≡ accepted_line sessions runs
