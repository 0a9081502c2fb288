-- All diagnostics of a class: its header, the check of its declarations, then the check of each of
-- its bodies.
use Rattle.std.specs.Prelude.{List, [], ◌∷◌, ◌++◌, Option, Some, None, if◌then◌else◌}
use Rattle.item_ids.specs.declared.key.Key.TheVariants as keys
use Rattle.mj_tree.specs.Trees.{Name}
use Rattle.mj_answer.specs.declared.diagnostic.Diagnostic.{Diagnostic}
use Rattle.mj_rules.specs.ClassFaults.{main_word}
use Rattle.result_bytes.specs.Payloads.{HeaderValue}
use Rattle.result_bytes.specs.Parts.{header_in, faults_in}
use Rattle.result_bytes.specs.declared.value.Value.{Value}
use Rattle.result_bytes.specs.declared.value.Value.TheVariants as values
use Rattle.recorder.specs.Programs.{Prog, Ask, each}
use Rattle.query_rules.specs.Items.{fault_set}
use Rattle.member_queries.specs.FirstNames.{first_names}

-- the bodies of a class: `main` of a main class, else its methods
abbrev pub bodies_in : HeaderValue → List Name
bodies_in h = if h.is_main then main_word ∷ [] else first_names h.methods

-- the diagnostics with those of one more body
abbrev pub body_step : Name → Name → List Diagnostic → (List Diagnostic → Prog) → Prog
body_step c m faults k = Ask (keys.CheckBody c m) (λ v. k (faults ++ faults_in v))

abbrev pub bodies_steps : Name → HeaderValue → List Diagnostic → (List Diagnostic → Prog) → Prog
bodies_steps c h faults k = each (body_step c) (bodies_in h) faults k

-- of a class that is declared
abbrev pub declared_faults_steps : Name → HeaderValue → (List Diagnostic → Prog) → Prog
declared_faults_steps c h k =
    Ask (keys.CheckClass c) (λ v. bodies_steps c h (faults_in v) (λ faults. k (fault_set faults)))

abbrev pub diags_by : Name → Option HeaderValue → (Value → Prog) → Prog
diags_by c None k = k (values.Diags [])
diags_by c (Some h) k = declared_faults_steps c h (λ faults. k (values.Diags faults))

abbrev pub diags_steps : Name → (Value → Prog) → Prog
diags_steps c k = Ask (keys.Header c) (λ v. diags_by c (header_in v) k)
