-- The diagnostics of a class's declarations: its header and its chain, the header of each class
-- that is the type of a field, then, if it has methods and its chain a second class, the members
-- of both, and in profile 2 the chains of return types.
use Rattle.std.specs.Prelude.{Bool, true, false, not, List, [], ◌∷◌, ◌++◌, map, Option, Some, None, if◌then◌else◌}
use Rattle.item_ids.specs.declared.key.Key.TheVariants as keys
use Rattle.mj_tree.specs.Trees.{Name}
use Rattle.mj_tree.specs.declared.tree.Ty.{Ty}
use Rattle.mj_tree.specs.declared.tree.Ty.TheVariants as types
use Rattle.mj_tree.specs.declared.tree.Field.{Field}
use Rattle.mj_phrases.specs.Types.{is_same}
use Rattle.mj_phrases.specs.Inquiries.{Sig}
use Rattle.profiles.specs.declared.profile.Profile.{Profile}
use Rattle.profiles.specs.declared.profile.Profile.TheVariants.{One, Two}
use Rattle.mj_rules.specs.FaultLists.{same_type}
use Rattle.result_bytes.specs.Payloads.{HeaderValue, ChainValue}
use Rattle.result_bytes.specs.Parts.{header_in, supers_in}
use Rattle.result_bytes.specs.declared.value.Value.{Value}
use Rattle.result_bytes.specs.declared.value.Value.TheVariants as values
use Rattle.recorder.specs.Programs.{Prog, Ask, each}
use Rattle.query_rules.specs.Items.{fault_set}
use Rattle.body_questions.specs.Classes.{is_declared_in, chain_classes}
use Rattle.body_questions.specs.Members.{method_in}
use Rattle.body_questions.specs.Questions.{descends_step}
use Rattle.answer_queries.specs.Signatures.{same_types, same_signature}
use Rattle.answer_queries.specs.Told.{faults_told}

-- ---- fields

-- a type is a class that isn't declared
abbrev pub type_step : Ty → (Bool → Prog) → Prog
type_step (types.Class c) k = Ask (keys.Header c) (λ v. k (not (is_declared_in v)))
type_step types.Int k = k false
type_step types.Boolean k = k false
type_step types.IntArray k = k false

-- the flags with that of one more field
abbrev pub field_type_step : Field → List Bool → (List Bool → Prog) → Prog
field_type_step f flags k = type_step f.ty (λ undeclared. k (flags ++ undeclared ∷ []))

-- ---- methods

-- the class whose members a class with these methods may override: the second of its chain
abbrev pub overridden_class : List Name → List Name → Option Name
overridden_class [] chain = None
overridden_class (m ∷ ms) [] = None
overridden_class (m ∷ ms) (c ∷ []) = None
overridden_class (m ∷ ms) (c ∷ s ∷ farther) = Some s

-- whether a type is accepted by another: a class by its chain, if the two differ
abbrev pub accept_step : Ty → Ty → (Bool → Prog) → Prog
accept_step (types.Class c) (types.Class d) k =
    if is_same c d then k true else descends_step c d k
accept_step t u k = k (same_type t u)

-- whether a method with the first types may override one with the others
abbrev pub may_step : Profile → Sig → Sig → (Bool → Prog) → Prog
may_step One own other k = k (same_signature own other)
may_step Two own other k =
    if same_types own.formals other.formals then accept_step own.returns other.returns k
    else k false

-- whether a method overrides one that it may not
abbrev pub override_flag : Profile → Option Sig → Option Sig → (Bool → Prog) → Prog
override_flag profile None other k = k false
override_flag profile (Some own) None k = k false
override_flag profile (Some own) (Some other) k = may_step profile own other (λ may. k (not may))

-- the flags with that of one more method, by the members of both classes
abbrev pub override_flag_step
    : Profile → Value → Value → Name → List Bool → (List Bool → Prog) → Prog
override_flag_step profile own other m flags k =
    override_flag profile (method_in own m) (method_in other m) (λ flag. k (flags ++ flag ∷ []))

-- for each method of the class, whether it overrides one that it may not
abbrev pub override_step : Profile → Name → List Name → Option Name → (List Bool → Prog) → Prog
override_step profile c methods None k = k (map (λ m. false) methods)
override_step profile c methods (Some s) k =
    Ask (keys.Members c) (λ own. Ask (keys.Members s) (λ other.
    each (override_flag_step profile own other) methods [] k))

-- ---- the class

-- a class with this header and this chain
abbrev pub check_declared_steps
    : Profile → Name → HeaderValue → Option ChainValue → (Value → Prog) → Prog
check_declared_steps profile c h chain k =
    each field_type_step h.fields []
    (λ undeclared. override_step profile c h.methods
    (overridden_class h.methods (chain_classes chain))
    (λ others. k (values.CheckClass (fault_set (faults_told h chain undeclared others)))))

abbrev pub check_class_by : Profile → Name → Option HeaderValue → (Value → Prog) → Prog
check_class_by profile c None k = k (values.CheckClass [])
check_class_by profile c (Some h) k =
    Ask (keys.Supers c) (λ v. check_declared_steps profile c h (supers_in v) k)

abbrev pub check_class_steps : Profile → Name → (Value → Prog) → Prog
check_class_steps profile c k = Ask (keys.Header c) (λ v. check_class_by profile c (header_in v) k)
