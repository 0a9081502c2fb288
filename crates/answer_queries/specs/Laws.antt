-- What the programs are tied to, in every project.
use Rattle.std.specs.Prelude.{◌≡◌, List, ℕ, Some}
use Rattle.item_ids.specs.declared.key.Key.TheVariants as keys
use Rattle.mj_members.specs.Declarations.{ClassDecl}
use Rattle.named_files.specs.Projects.{IsProject}
use Rattle.profiles.specs.declared.profile.Profile.{Profile}
use Rattle.mj_rules.specs.Sentences.{classes_in}
use Rattle.mj_rules.specs.FaultLists.{declaration_faults, project_faults}
use Rattle.recorder.specs.Projects.{Project}
use Rattle.recorder.specs.Programs.{Ret}
use Rattle.query_rules.specs.Items.{class_at}
use Rattle.query_rules.specs.Ties.{Ties, TiesIn}
use Rattle.body_query.specs.Bounds.{bounded_faults}
use Rattle.answer_queries.specs.CheckClass.{check_class_steps}
use Rattle.answer_queries.specs.Answer.{answer_steps}

-- ---- the check of a class's declarations

-- its program in a profile gives the value of the query and asks what it reads
abbrev pub CheckClassTies : Type 0
CheckClassTies =
    (profile : Profile) (c : List ℕ)
    → TiesIn profile (keys.CheckClass c) (check_class_steps profile c Ret)

-- the places of the diagnostics of a class's declarations fit into four bytes, and are left as they
-- are
abbrev pub ClassBounds : Type 0
ClassBounds =
    (profile : Profile) (p : Project) → IsProject p → (c : List ℕ) (k : ClassDecl)
    → class_at p c ≡ Some k
    → bounded_faults (declaration_faults profile (classes_in p) k)
    ≡ declaration_faults profile (classes_in p) k

-- ---- the answer

-- it gives the answer of the rules and asks what the query reads
abbrev pub AnswerTies : Type 0
AnswerTies = Ties keys.Answer (answer_steps Ret)

-- the places of the project's diagnostics fit into four bytes, and are left as they are
abbrev pub ProjectBounds : Type 0
ProjectBounds =
    (p : Project) → IsProject p → bounded_faults (project_faults p) ≡ project_faults p
