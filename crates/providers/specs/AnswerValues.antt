-- Results that are answers for a project.
use Rattle.std.specs.Prelude.{◌≡◌}
use Rattle.mj_answer.specs.AnswerValues.{AnswerValue}
use Rattle.result_bytes.specs.declared.value.Value.{Value}
use Rattle.result_bytes.specs.declared.value.Value.TheVariants as values

-- it is an answer for a project
abbrev pub IsAnswerValue : Value → Type 0
IsAnswerValue v = (answer : AnswerValue) × (v ≡ values.Answer answer)
