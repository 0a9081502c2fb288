-- The answer for the whole project.
use Rattle.std.specs.Prelude.{List, [], ◌∷◌, ◌++◌}
use Rattle.item_ids.specs.declared.key.Key.TheVariants as keys
use Rattle.mj_tree.specs.Trees.{Name}
use Rattle.mj_answer.specs.declared.diagnostic.Diagnostic.{Diagnostic}
use Rattle.mj_answer.specs.AnswerValues.{ClassAnswerValue, AnswerValue}
use Rattle.result_bytes.specs.Parts.{faults_in, files_in, index_in}
use Rattle.result_bytes.specs.declared.files.IndexRow.{IndexRow}
use Rattle.result_bytes.specs.declared.value.Value.{Value}
use Rattle.result_bytes.specs.declared.value.Value.TheVariants as values
use Rattle.recorder.specs.Programs.{Prog, Ask, each}
use Rattle.query_rules.specs.Items.{fault_set}
use Rattle.body_questions.specs.Members.{table_in}
use Rattle.answer_queries.specs.Trees.{tree_step}
use Rattle.answer_queries.specs.ProjectFaults.{project_faults}

-- ---- a class

-- the class of this name, by its members and its diagnostics
abbrev pub class_answer : Name → Value → Value → ClassAnswerValue
class_answer c members diags =
    record { name = c; table = table_in members; faults = faults_in diags }

-- Members, then Diags, of one more class
abbrev pub class_step : IndexRow → List ClassAnswerValue → (List ClassAnswerValue → Prog) → Prog
class_step row classes k =
    Ask (keys.Members row.class) (λ members. Ask (keys.Diags row.class) (λ diags.
    k (classes ++ class_answer row.class members diags ∷ [])))

-- ---- the answer

abbrev pub answer : List Diagnostic → List ClassAnswerValue → AnswerValue
answer faults classes = record { faults = fault_set faults; classes = classes }

-- Index, then Members and Diags of each class, if these are the project's own diagnostics
abbrev pub classes_steps : List Diagnostic → (AnswerValue → Prog) → Prog
classes_steps faults k =
    Ask keys.Index (λ v. each class_step (index_in v) [] (λ classes. k (answer faults classes)))

-- Files, then Tree of each file, then the classes
abbrev pub answer_steps : (Value → Prog) → Prog
answer_steps k =
    Ask keys.Files (λ v. each tree_step (files_in v) [] (λ files.
    classes_steps (project_faults files) (λ a. k (values.Answer a))))
