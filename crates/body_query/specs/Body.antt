-- The query of a body's mistakes as a program.
use Rattle.std.specs.Prelude.{List, [], map, Option, Some, None}
use Rattle.item_ids.specs.declared.key.Key.{Key}
use Rattle.item_ids.specs.declared.key.Key.TheVariants as keys
use Rattle.mj_tree.specs.Trees.{Name}
use Rattle.mj_tree.specs.declared.place.Place.TheVariants.{Inside}
use Rattle.mj_answer.specs.declared.diagnostic.Diagnostic.{Diagnostic}
use Rattle.mj_phrases.specs.declared.verdict.Mistake.{Mistake}
use Rattle.mj_phrases.specs.Inquiries.{Concludes}
use Rattle.mj_phrases.specs.Steps.{Check}
use Rattle.mj_phrases.specs.Table.{main_scope}
use Rattle.mj_typing.specs.Bodies.{statement_step, method_check}
use Rattle.tree_bytes.specs.Bodies.{BodyValue, OfMain, OfMethod}
use Rattle.result_bytes.specs.Parts.{body_in}
use Rattle.result_bytes.specs.declared.value.Value.{Value}
use Rattle.result_bytes.specs.declared.value.Value.TheVariants as values
use Rattle.recorder.specs.Programs.{Prog, Ret, Ask}
use Rattle.query_rules.specs.Items.{fault_set}
use Rattle.body_query.specs.Bounds.{bound}
use Rattle.body_query.specs.Programs.{reads_of}

-- a mistake as a diagnostic in the method
abbrev pub fault_of_mistake : Name → Mistake → Diagnostic
fault_of_mistake m x = record { place = Inside m (bound x.mark); code = x.code }

abbrev pub faults_of_mistakes : Name → List Mistake → List Diagnostic
faults_of_mistakes m mistakes = map (fault_of_mistake m) mistakes

-- what is asked of a body
abbrev pub check_of : Name → Option BodyValue → Check
check_of c None = Concludes []
check_of c (Some (OfMain statement)) =
    statement_step main_scope statement [] (λ mistakes. Concludes mistakes)
check_of c (Some (OfMethod tree)) = method_check c tree

-- Method(c, m), then what the check of that body asks
abbrev pub body_steps : Name → Name → (Value → Prog) → Prog
body_steps c m k =
    Ask (keys.Method c m) (λ v. reads_of (check_of c (body_in v))
    (λ mistakes. k (values.CheckBody (fault_set (faults_of_mistakes m mistakes)))))

-- the program of a key of this kind
abbrev pub body_prog : Key → Prog
body_prog (keys.CheckBody c m) = body_steps c m Ret
body_prog q = Ret (values.CheckBody [])
