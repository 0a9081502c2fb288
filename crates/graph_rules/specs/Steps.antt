-- How keys stand in a session under work, and the events that change it.
use Rattle.std.specs.Prelude.{◌≡◌, ℕ, ◌+◌, ◌<◌, Bool, true, false, List, [], ◌∷◌, Option, Some, None, option_map, if◌then◌else◌, bytes_eq}
use Rattle.std.specs.List.{AllByRecursion}
use Rattle.item_ids.specs.declared.key.Key.{Key}
use Rattle.item_ids.specs.Inputs.{rank}
use Rattle.result_bytes.specs.declared.value.Value.{Value}
use Rattle.fingerprint.specs.Prints.{print_of}
use Rattle.recorder.specs.Projects.{Project}
use Rattle.recorder.specs.Backed.{ReadValue, keys}
use Rattle.recorder.specs.Runs.{OutcomeValue}
use Rattle.sessions.specs.declared.mark.Mark.{Mark}
use Rattle.sessions.specs.declared.mark.Mark.TheVariants.{Input, Green, Executed}
use Rattle.sessions.specs.Sessions.{Entry}
use Rattle.graph_rules.specs.Keys.{same_key, input_of}
use Rattle.graph_rules.specs.Pasts.{Past, print_in}
use Rattle.graph_rules.specs.Settings.{Setting, kept}

-- A key is unknown, claimed by a worker, running by a worker, or done with a value, the keys read
-- for it, and a mark.
pub data Status : Type 0 where
  Unknown : Status
  Claimed : ℕ → Status
  Running : ℕ → Status
  Done : Value → List Key → Mark → Status

-- how each key stands, and whether a worker failed
pub record State : Type 0 where
  pub at : Key → Status
  pub failed : Bool

-- what a worker does, with a key or the outcome of its run
pub data Event : Type 0 where
  Claim : ℕ → Key → Event
  MarkGreen : ℕ → Key → Event
  Begin : ℕ → Key → Event
  Finish : ℕ → OutcomeValue → Event
  Fail : ℕ → Event

-- an input is done, any other key unknown
abbrev pub at_opening : Option Value → Status
at_opening (Some v) = Done v [] Input
at_opening None = Unknown

-- at the opening the inputs are done, and nothing else is known
abbrev pub opening : Project → State
opening p = record { at = λ q. at_opening (input_of p q); failed = false }

-- the state with one key changed to this status
abbrev pub with_status : State → Key → Status → State
with_status s q x = record { at = λ k. if same_key q k then x else s.at k; failed = s.failed }

abbrev pub IsDone : Status → Type 0
IsDone (Done v es m) = Unit {0}
IsDone _ = ⊥

abbrev pub IsNotDone : Status → Type 0
IsNotDone (Done v es m) = ⊥
IsNotDone _ = Unit {0}

-- done with this value
abbrev pub IsDoneWith : Value → Status → Type 0
IsDoneWith v (Done x es m) = x ≡ v
IsDoneWith v _ = ⊥

-- claimed or running by w
abbrev pub IsHeldBy : ℕ → Status → Type 0
IsHeldBy w (Claimed u) = u ≡ w
IsHeldBy w (Running u) = u ≡ w
IsHeldBy w _ = ⊥

-- ---- previous edges: the edges of a key in the previous session

pub data EdgeState : Type 0 where
  Open : EdgeState
  Unchanged : EdgeState
  Changed : EdgeState

-- A previous edge is open while its key isn't done; then it is unchanged or changed, as the two
-- fingerprints are equal or not.
abbrev pub edge_at : Option (List ℕ) → Status → EdgeState
edge_at print Unknown = Open
edge_at print (Claimed w) = Open
edge_at print (Running w) = Open
edge_at (Some print) (Done v es m) = if bytes_eq print (print_of v) then Unchanged else Changed
edge_at None (Done v es m) = Changed

abbrev pub edge_of : Past → State → Key → EdgeState
edge_of past s e = edge_at (print_in past e) (s.at e)

-- all edges are unchanged, or the first that isn't is open or changed, by its place
pub data Walk : Type 0 where
  AllUnchanged : Walk
  OpenAt : ℕ → Walk
  ChangedAt : ℕ → Walk

-- the walk with one more unchanged edge in front
abbrev pub later : Walk → Walk
later AllUnchanged = AllUnchanged
later (OpenAt i) = OpenAt (i + 1)
later (ChangedAt i) = ChangedAt (i + 1)

abbrev pub walk_on : EdgeState → Walk → Walk
walk_on Open rest = OpenAt 0
walk_on Changed rest = ChangedAt 0
walk_on Unchanged rest = later rest

abbrev pub walk : Past → State → List Key → Walk
walk past s [] = AllUnchanged
walk past s (e ∷ es) = walk_on (edge_of past s e) (walk past s es)

-- the walk over the previous edges of a key, if it may be taken over from the previous session
abbrev pub past_walk : Setting → State → Key → Option Walk
past_walk over s q = option_map (λ r. walk over.held s r.reads) (kept over q)

-- ---- events

-- the key's rank is below the ranks of all that w has claimed or runs
abbrev pub IsBelow : State → ℕ → Key → Type 0
IsBelow s w q = (k : Key) → IsHeldBy w (s.at k) → rank q < rank k

-- w has claimed or runs a key whose rank isn't above this one's
pub record IsOwn (s : State) (w : ℕ) (q : Key) : Type 0 where
  pub key : Key
  pub held : IsHeldBy w (s.at key)
  pub not_above : ¬ (rank q < rank key)

-- A key may run if there is nothing to take over from the previous session, or if the first of its
-- previous edges that isn't unchanged is changed.
abbrev pub MayRun : Option Walk → Type 0
MayRun None = Unit {0}
MayRun (Some (ChangedAt i)) = Unit {0}
MayRun (Some _) = ⊥

-- each read is done with the same value
abbrev pub AreHeld : State → List ReadValue → Type 0
AreHeld s told = AllByRecursion (λ t. IsDoneWith t.value (s.at t.key)) told

-- the event is a step in the state; the outcome of a run is one of the session's profile
abbrev pub MayStep : Setting → State → Event → Type 0
MayStep over s (Claim w q) = (s.failed ≡ false) × (s.at q ≡ Unknown) × IsBelow s w q
MayStep over s (MarkGreen w q) =
    (s.failed ≡ false) × (s.at q ≡ Claimed w) × (past_walk over s q ≡ Some AllUnchanged)
MayStep over s (Begin w q) = (s.failed ≡ false) × (s.at q ≡ Claimed w) × MayRun (past_walk over s q)
MayStep over s (Finish w o) =
    (s.failed ≡ false) × (s.at o.key ≡ Running w) × AreHeld s o.told × (o.profile ≡ over.profile)
MayStep over s (Fail w) = s.failed ≡ false

-- done with the previous session's value and edges
abbrev pub green : Option Entry → Status
green (Some r) = Done r.value r.reads Green
green None = Unknown

-- the state after a step
abbrev pub after : Setting → State → Event → State
after over s (Claim w q) = with_status s q (Claimed w)
after over s (MarkGreen w q) = with_status s q (green (kept over q))
after over s (Begin w q) = with_status s q (Running w)
after over s (Finish w o) = with_status s o.key (Done o.value (keys o.told) Executed)
after over s (Fail w) = record { at = s.at; failed = true }

abbrev pub after_all : Setting → State → List Event → State
after_all over s [] = s
after_all over s (e ∷ es) = after_all over (after over s e) es

-- each event is a step in its turn
abbrev pub AreSteps : Setting → State → List Event → Type 0
AreSteps over s [] = Unit {0}
AreSteps over s (e ∷ es) = MayStep over s e × AreSteps over (after over s e) es

-- from the opening each event is a step
abbrev pub Legal : Setting → Project → List Event → Type 0
Legal over p history = AreSteps over (opening p) history

-- the state that a history leads to
abbrev pub state_after : Setting → Project → List Event → State
state_after over p history = after_all over (opening p) history
