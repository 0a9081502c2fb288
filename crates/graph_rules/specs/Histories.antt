-- What holds of the events of a legal history, one before the other.
use Rattle.std.specs.Prelude.{◌≡◌, List, ◌∷◌, ◌++◌}
use Rattle.std.specs.List.{AllByRecursion}
use Rattle.item_ids.specs.declared.key.Key.{Key}
use Rattle.result_bytes.specs.declared.value.Value.{Value}
use Rattle.recorder.specs.Projects.{Project}
use Rattle.sessions.specs.declared.mark.Mark.{Mark}
use Rattle.graph_rules.specs.Settings.{Setting}
use Rattle.graph_rules.specs.Steps.{Status, Done, State, Event, MarkGreen, Finish, IsDone, IsNotDone, after, state_after}

-- what is done stays done as it is
abbrev pub Keeps : State → State → Type 0
Keeps s t =
    (q : Key) (v : Value) (es : List Key) (m : Mark) → s.at q ≡ Done v es m → t.at q ≡ Done v es m

-- the event makes the key done
abbrev pub MakesDone : Event → Key → Type 0
MakesDone (MarkGreen w k) q = k ≡ q
MakesDone (Finish w o) q = o.key ≡ q
MakesDone _ q = ⊥

-- the edges of a key that is done were done before
abbrev pub HasEdgesDone : State → Status → Type 0
HasEdgesDone s (Done v es m) = AllByRecursion (λ e. IsDone (s.at e)) es
HasEdgesDone s _ = ⊥

-- No key becomes done twice, and none before its edges.
pub record IsOrderly (over : Setting) (p : Project) (history : List Event) : Type 0 where
  pub stays : (front rest : List Event) → front ++ rest ≡ history
      → Keeps (state_after over p front) (state_after over p history)
  pub once : (front : List Event) (e : Event) (rest : List Event) (q : Key)
      → front ++ e ∷ rest ≡ history → MakesDone e q → IsNotDone ((state_after over p front).at q)
  pub edges_first : (front : List Event) (e : Event) (rest : List Event) (q : Key)
      → front ++ e ∷ rest ≡ history → MakesDone e q
      → HasEdgesDone (state_after over p front) ((after over (state_after over p front) e).at q)
