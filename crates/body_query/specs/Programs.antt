-- A check that asks, as a query program.
use Rattle.std.specs.Prelude.{List}
use Rattle.mj_phrases.specs.declared.verdict.Mistake.{Mistake}
use Rattle.mj_phrases.specs.Inquiries.{Concludes, AsksDescent, AsksField, AsksMethod, AsksDeclared}
use Rattle.mj_phrases.specs.Steps.{Check}
use Rattle.recorder.specs.Programs.{Prog}
use Rattle.body_questions.specs.Questions.{descends_step, field_step, method_step, declared_step}

-- a check, continued with its mistakes
unfoldable pub reads_of : Check → (List Mistake → Prog) → Prog
reads_of (Concludes mistakes) k = k mistakes
reads_of (AsksDescent c d f) k = descends_step c d (λ answer. reads_of (f answer) k)
reads_of (AsksField c x f) k = field_step c x (λ answer. reads_of (f answer) k)
reads_of (AsksMethod c m f) k = method_step c m (λ answer. reads_of (f answer) k)
reads_of (AsksDeclared c f) k = declared_step c (λ answer. reads_of (f answer) k)
