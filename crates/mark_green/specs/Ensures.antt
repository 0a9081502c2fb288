-- What evaluating a key answers, by the table before it.
use Rattle.std.specs.Prelude.{◌≡◌, ◌⊎◌, ◌<◌, ℕ, Bool, true, false, List, map, length, Option, Some, None, Result, Ok, Err}
use Rattle.std.specs.declared.alloc.Global.{Global}
use Rattle.std.specs.declared.sync.Arc.{Arc}
use Rattle.std.specs.Arc.{arc_value}
use Rattle.item_ids.specs.declared.key.Key.{Key}
use Rattle.item_ids.specs.Keys.{kind_of}
use Rattle.item_ids.specs.Inputs.{rank}
use Rattle.result_bytes.specs.declared.value.Value.{Value}
use Rattle.recorder.specs.Backed.{ReadValue}
use Rattle.recorder.specs.Runs.{OutcomeValue}
use Rattle.graph_rules.specs.Steps.{Unchanged, Changed, AllUnchanged, Walk, walk, edge_of, MayRun, IsDoneWith, IsOwn, AreHeld}
use Rattle.graph_rules.specs.Settings.{has_kind}
use Rattle.job_table.specs.Tables.{TableValue, state_of}
use Rattle.job_table.specs.Calls.{walk_in}
use Rattle.sessions.specs.Sessions.{SessionValue, RecordValue, Entry, key_at, entry_at, past_entry}
use Rattle.job_table.specs.declared.fault.TableFault.{TableFault}
use Rattle.job_table.specs.declared.fault.TableFault.TheVariants as table
use Rattle.mark_green.specs.declared.fault.Fault.{Fault}
use Rattle.mark_green.specs.declared.fault.Fault.TheVariants as fault
use Rattle.mark_green.specs.declared.steps.Tried.{Tried}
use Rattle.mark_green.specs.declared.steps.Tried.TheVariants as tried
use Rattle.mark_green.specs.declared.asking.RunStop.{RunStop}
use Rattle.mark_green.specs.declared.asking.RunStop.TheVariants as stop
use Rattle.mark_green.specs.Leaves.{GoesOn, Stops, Stays, StaysBut, WorkerGivesUp, LeavesClaims, LeavesBut, IsOthers}

-- Ok: the key is done in the table with this result. Stopped: a worker had failed, or w had a key
-- whose rank isn't above this one's. Busy: another worker had a key. Whatever the answer, what a
-- worker had claimed or ran it still has.
abbrev pub EnsureGives : TableValue → ℕ → Key → Result (Arc Value Global) Fault → TableValue
    → Type 0
EnsureGives t w q (Ok v) u = LeavesClaims t u × IsDoneWith (arc_value v) ((state_of u).at q)
EnsureGives t w q (Err fault.Stopped) u =
    Stops t u × Stays t u × (((state_of t).failed ≡ true) ⊎ IsOwn (state_of t) w q)
EnsureGives t w q (Err fault.OutOfMemory) u =
    Stops t u × Stays t u × ((state_of t).failed ≡ false)
EnsureGives t w q (Err fault.Busy) u =
    GoesOn t u × Stays t u × ((state_of u).failed ≡ false) × IsOthers t w

-- why a key that w has claimed or runs isn't evaluated: memory ran out, or another worker had a key
abbrev pub IsGivenUp : TableValue → ℕ → Fault → TableValue → Type 0
IsGivenUp t w fault.Stopped u = ⊥
IsGivenUp t w fault.OutOfMemory u = Stops t u
IsGivenUp t w fault.Busy u = GoesOn t u × ((state_of u).failed ≡ false) × IsOthers t w

-- evaluating a key that w has claimed or runs
abbrev pub WorkGives : TableValue → ℕ → Key → Result (Arc Value Global) Fault → TableValue → Type 0
WorkGives t w q (Ok v) u = LeavesBut q t u × IsDoneWith (arc_value v) ((state_of u).at q)
WorkGives t w q (Err f) u = IsGivenUp t w f u × StaysBut q t u

-- why there is nothing to take over of a key: the previous session lacks it, or is of another profile,
-- by which the key goes
abbrev pub IsOfPast : TableFault → Type 0
IsOfPast table.NotInPast = Unit {0}
IsOfPast table.AcrossProfiles = Unit {0}
IsOfPast _ = ⊥

-- why a key isn't marked at once: one of its previous edges isn't done and unchanged
abbrev pub IsOfEdges : TableFault → Type 0
IsOfEdges (table.EdgeOpen i) = Unit {0}
IsOfEdges (table.EdgeChanged i) = Unit {0}
IsOfEdges _ = ⊥

-- marking a key that w has claimed, unless it is to wait for its edges, or nothing of it may be taken
-- over: then nothing changes
abbrev pub TryGives : TableValue → ℕ → Key → Result Tried Fault → TableValue → Type 0
TryGives t w q (Ok (tried.Marked v)) u = WorkGives t w q (Ok v) u
TryGives t w q (Ok tried.ByEdges) u = (u ≡ t) × (has_kind t.crossing (kind_of q) ≡ false)
TryGives t w q (Ok tried.Runs) u = (u ≡ t) × (walk_in t q ≡ None)
TryGives t w q (Err f) u = WorkGives t w q (Err f) u

-- the result by which a key was marked is given
abbrev pub TellsTried : (Key → Value → Type 0) → Key → Tried → Type 0
TellsTried told q (tried.Marked v) = told q (arc_value v)
TellsTried told q _ = Unit {0}

-- evaluating a previous edge e, and whether it is unchanged then
abbrev pub EdgeGives : TableValue → ℕ → Key → Result Bool Fault → TableValue → Type 0
EdgeGives t w e (Ok true) u = LeavesClaims t u × (edge_of (past_entry u.past) (state_of u) e ≡ Unchanged)
EdgeGives t w e (Ok false) u = LeavesClaims t u × (edge_of (past_entry u.past) (state_of u) e ≡ Changed)
EdgeGives t w e (Err f) u = EnsureGives t w e (Err f) u

-- the walk over previous edges in a table
abbrev pub walk_over : TableValue → List Key → Walk
walk_over t es = walk (past_entry t.past) (state_of t) es

-- evaluating previous edges, up to the first that is changed, and whether none is
abbrev pub WalkGives : TableValue → ℕ → List Key → Result Bool Fault → TableValue → Type 0
WalkGives t w es (Ok true) u = LeavesClaims t u × (walk_over u es ≡ AllUnchanged)
WalkGives t w es (Ok false) u = LeavesClaims t u × MayRun (Some (walk_over u es))
WalkGives t w es (Err f) u = IsGivenUp t w f u × Stays t u

-- the previous session has the key with these edges
abbrev pub PastHasEdges : SessionValue → Key → List ℕ → Type 0
PastHasEdges s q edges =
    (r : Entry) × (entry_at s q ≡ Some r) × (r.reads ≡ map (key_at s.records) edges)

-- a record of the previous session whose key is of lower rank than q
abbrev pub IsRecordUnder : List RecordValue → Key → ℕ → Type 0
IsRecordUnder records q e = (e < length records) × (rank (key_at records e) < rank q)

-- evaluating a key that a run lacked, and what is held then
abbrev pub FetchGives : TableValue → ℕ → Key → Result (Unit {0}) Fault → List ReadValue
    → TableValue → Type 0
FetchGives t w k (Ok _) held u =
    LeavesBut k t u × ((v : Value) × IsDoneWith v ((state_of u).at k)) × AreHeld (state_of u) held
FetchGives t w k (Err f) held u = IsGivenUp t w f u × StaysBut k t u

-- one run, or the evaluation of a key that it lacked
abbrev pub TurnGives : TableValue → ℕ → Key → Result (Option OutcomeValue) Fault
    → List ReadValue → TableValue → Type 0
TurnGives t w q (Ok (Some o)) held u = LeavesClaims t u × AreHeld (state_of u) o.told
TurnGives t w q (Ok None) held u = LeavesClaims t u × AreHeld (state_of u) held
TurnGives t w q (Err f) held u = IsGivenUp t w f u × Stays t u

-- what was read in a run, or else what is held for the next one
abbrev pub told_or : Option OutcomeValue → List ReadValue → List ReadValue
told_or (Some o) held = o.told
told_or None held = held

-- runs, until one has an outcome
abbrev pub RunGives : TableValue → ℕ → Result OutcomeValue Fault → TableValue → Type 0
RunGives t w (Ok o) u = LeavesClaims t u × AreHeld (state_of u) o.told
RunGives t w (Err f) u = IsGivenUp t w f u × Stays t u

-- if a table is out of memory so is the work; any other refusal of it ends the work
abbrev pub IsWorkFault : TableFault → Fault → Type 0
IsWorkFault table.OutOfMemory f = f ≡ fault.OutOfMemory
IsWorkFault _ f = f ≡ fault.Stopped

-- the fault of a run that stopped
abbrev pub IsFaultOfStop : RunStop → Fault → Type 0
IsFaultOfStop stop.Busy f = f ≡ fault.Busy
IsFaultOfStop stop.Stopped f = f ≡ fault.Stopped
IsFaultOfStop (stop.Refused x) f = IsWorkFault x f
IsFaultOfStop (stop.Lacks k) f = f ≡ fault.OutOfMemory
IsFaultOfStop stop.OutOfMemory f = f ≡ fault.OutOfMemory

-- nothing is called if another worker has a key, or a worker failed before
abbrev pub StopsFor : RunStop → TableValue → TableValue → Type 0
StopsFor stop.Busy t u = u ≡ t
StopsFor stop.Stopped t u = u ≡ t
StopsFor _ t u = WorkerGivesUp t u

-- what a store says of an outcome is what stands in it
abbrev pub ShowsOutcomes : (Arc OutcomeValue Global → OutcomeValue) → Type 0
ShowsOutcomes shown = (o : Arc OutcomeValue Global) → shown o ≡ arc_value o
