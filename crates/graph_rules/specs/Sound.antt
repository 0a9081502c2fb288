-- What holds of every key in each state that a legal history reaches.
use Rattle.std.specs.Prelude.{◌≡◌, ◌<◌, List, [], Some}
use Rattle.std.specs.List.{AllByRecursion}
use Rattle.item_ids.specs.declared.key.Key.{Key}
use Rattle.item_ids.specs.Keys.{kind_of}
use Rattle.item_ids.specs.Inputs.{rank, is_input}
use Rattle.item_ids.specs.KeyLists.{AreLower, NoneTwice}
use Rattle.result_bytes.specs.declared.value.Value.{Value}
use Rattle.result_bytes.specs.Values.{IsOfKind}
use Rattle.recorder.specs.Projects.{Project}
use Rattle.recorder.specs.Backed.{Meaning, ReadLists, ReadValue, keys}
use Rattle.recorder.specs.Runs.{IsOutcome}
use Rattle.sessions.specs.declared.mark.Mark.{Mark}
use Rattle.sessions.specs.declared.mark.Mark.TheVariants.{Input, Green, Executed}
use Rattle.sessions.specs.Marks.{is_input_mark}
use Rattle.sessions.specs.Sessions.{Entry}
use Rattle.graph_rules.specs.Keys.{input_of}
use Rattle.graph_rules.specs.Settings.{Setting, kept}
use Rattle.graph_rules.specs.Steps.{Status, Unknown, Claimed, Running, Done, State, Event, Finish, AllUnchanged, walk, past_walk, MayRun, AreHeld, IsDone}

-- an outcome that ends a run follows from its reads
abbrev pub IsBacked : Meaning → ReadLists → Event → Type 0
IsBacked mean reads (Finish w o) = IsOutcome mean reads o
IsBacked mean reads _ = Unit {0}

abbrev pub AreBacked : Meaning → ReadLists → List Event → Type 0
AreBacked mean reads history = AllByRecursion (λ e. IsBacked mean reads e) history

-- A green key has the value and edges that are taken over from the previous session, and each of these
-- edges is unchanged.
pub record IsGreen (over : Setting) (s : State) (q : Key) (v : Value) (es : List Key) : Type 0 where
  pub had : Entry
  pub past_has : kept over q ≡ Some had
  pub value : had.value ≡ v
  pub edges : had.reads ≡ es
  pub unchanged : walk over.held s es ≡ AllUnchanged

-- An executed key had to run, and its value follows from answers that are the values of its edges.
pub record IsExecuted (mean : Meaning) (reads : ReadLists) (over : Setting) (s : State)
    (q : Key) (v : Value) (es : List Key) : Type 0 where
  pub told : List ReadValue
  pub outcome : IsOutcome mean reads
      (record { profile = over.profile; key = q; told = told; value = v })
  pub edges : keys told ≡ es
  pub held : AreHeld s told
  pub needed : MayRun (past_walk over s q)

-- what each status says of a key
abbrev pub IsSoundAt : Meaning → ReadLists → Setting → Project → State → Key → Status → Type 0
IsSoundAt mean reads over p s q Unknown = 0 < rank q
IsSoundAt mean reads over p s q (Claimed w) = 0 < rank q
IsSoundAt mean reads over p s q (Running w) = (0 < rank q) × MayRun (past_walk over s q)
IsSoundAt mean reads over p s q (Done v es Input) = (input_of p q ≡ Some v) × (es ≡ [])
IsSoundAt mean reads over p s q (Done v es Green) = (0 < rank q) × IsGreen over s q v es
IsSoundAt mean reads over p s q (Done v es Executed) =
    (0 < rank q) × IsExecuted mean reads over s q v es

abbrev pub IsSound : Meaning → ReadLists → Setting → Project → State → Type 0
IsSound mean reads over p s = (q : Key) → IsSoundAt mean reads over p s q (s.at q)

-- a done key's value is of its kind, its mark is Input exactly if it is an input, and its edges
-- are done and of lower rank, and none is there twice
pub record IsDoneInOrder (s : State) (q : Key) (v : Value) (es : List Key) (m : Mark) : Type 0 where
  pub kind : IsOfKind q v
  pub marked : is_input_mark m ≡ is_input (kind_of q)
  pub lower : AreLower q es
  pub once : NoneTwice (λ k. k) es
  pub done : AllByRecursion (λ e. IsDone (s.at e)) es

abbrev pub IsInOrderAt : State → Key → Status → Type 0
IsInOrderAt s q (Done v es m) = IsDoneInOrder s q v es m
IsInOrderAt s q _ = Unit {0}

abbrev pub IsInOrder : State → Type 0
IsInOrder s = (q : Key) → IsInOrderAt s q (s.at q)
