-- What a check of a body asks, as steps of a query program.
use Rattle.std.specs.Prelude.{Bool, Option}
use Rattle.item_ids.specs.declared.key.Key.TheVariants as keys
use Rattle.mj_tree.specs.Trees.{Name}
use Rattle.mj_tree.specs.declared.tree.Ty.{Ty}
use Rattle.mj_phrases.specs.Inquiries.{Sig}
use Rattle.recorder.specs.Programs.{Prog, Ask}
use Rattle.body_questions.specs.Classes.{is_declared_in, descends_in}
use Rattle.body_questions.specs.Members.{field_in, method_in}

-- the second class stands in the chain of the first
abbrev pub descends_step : Name → Name → (Bool → Prog) → Prog
descends_step c d k = Ask (keys.Supers c) (λ v. k (descends_in v d))

abbrev pub field_step : Name → Name → (Option Ty → Prog) → Prog
field_step c x k = Ask (keys.Members c) (λ v. k (field_in v x))

abbrev pub method_step : Name → Name → (Option Sig → Prog) → Prog
method_step c m k = Ask (keys.Members c) (λ v. k (method_in v m))

abbrev pub declared_step : Name → (Bool → Prog) → Prog
declared_step c k = Ask (keys.Header c) (λ v. k (is_declared_in v))
