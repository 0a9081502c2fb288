-- What is known of a value that a key may take.
use Rattle.std.specs.Prelude.{◌≡◌, ℕ, ◌<◌, List, [], Some, map, length}
use Rattle.std.specs.List.{AllByRecursion}
use Rattle.std.specs.Arc.{arc_value}
use Rattle.std.specs.declared.alloc.Global.{Global}
use Rattle.std.specs.declared.sync.Arc.{Arc}
use Rattle.item_ids.specs.declared.key.Key.{Key}
use Rattle.item_ids.specs.Inputs.{rank}
use Rattle.item_ids.specs.KeyLists.{AreLower}
use Rattle.result_bytes.specs.declared.value.Value.{Value}
use Rattle.result_bytes.specs.Values.{IsOfKind}
use Rattle.recorder.specs.Projects.{Project}
use Rattle.recorder.specs.Backed.{ReadValue, keys}
use Rattle.recorder.specs.Programs.{Prog}
use Rattle.graph_rules.specs.Keys.{input_of}
use Rattle.keeping.specs.Follows.{Follows}
use Rattle.resident_graph.specs.Lists.{key_in, IsAnswer}
use Rattle.resident_graph.specs.declared.running.Evaluated.{Evaluated}
use Rattle.resident_graph.specs.declared.running.Evaluated.TheVariants.{Done, Lacks}

-- the value follows from what was read, which these places have
pub record IsResult (prog : Prog) (ks : List Key) (vs : List (Arc Value Global)) (q : Key) (v : Value)
    (es : List ℕ) : Type 0 where
  pub told : List ReadValue
  pub follows : Follows prog told v
  pub lower : AreLower q (keys told)
  pub answers : AllByRecursion (λ t. IsAnswer ks vs t.key t.value) told
  pub same : map (key_in ks) es ≡ keys told

-- an input's value is the project's, and any other key's a result over the values of now
pub record IsValueOf (prog_of : Key → Prog) (p : Project) (ks : List Key)
    (vs : List (Arc Value Global)) (q : Key) (v : Value) (es : List ℕ) : Type 0 where
  pub kind : IsOfKind q v
  pub inside : AllByRecursion (λ e. e < length ks) es
  pub input : rank q ≡ 0 → input_of p q ≡ Some v
  pub run : 0 < rank q → IsResult (prog_of q) ks vs q v es

-- a value, or a key that lacks
abbrev pub EvaluatedGives : (Key → Prog) → Project → List Key → List (Arc Value Global) → Key
    → Evaluated → Type 0
EvaluatedGives prog_of p ks vs q (Done a es) = IsValueOf prog_of p ks vs q (arc_value a) es.items
EvaluatedGives prog_of p ks vs q (Lacks k) = Unit {0}

-- no result
abbrev pub IsLacking : Evaluated → Type 0
IsLacking (Done a es) = ⊥
IsLacking (Lacks k) = Unit {0}

-- this value, for which nothing was read
abbrev pub IsGiven : Value → Evaluated → Type 0
IsGiven v (Done a es) = (arc_value a ≡ v) × (es.items ≡ [])
IsGiven v (Lacks k) = ⊥
