-- Histories of a build. Keys have states and no ranks, and any number of them may be under way.
use Rattle.std.specs.Prelude.{◌≡◌, ◌≢◌, ℕ, ◌+◌, List, [], ◌∷◌, ◌++◌, length, take, slice_get, Some, None, if◌then◌else◌}
use Rattle.std.specs.List.{AllByRecursion}
use Rattle.std.specs.Str.{bytes_eq}
use Rattle.redgreen_rules.specs.Programs.{Key, Value, Inputs}
use Rattle.redgreen_rules.specs.Runs.{Told, IsIn, Run, Gave, Wanted, Failed}
use Rattle.redgreen_rules.specs.Sessions.{Input, Green, Executed, Entry, Holds, AreHeld, IsNew, Passes, Agree, runs_of}

pub data Status : Type 0 where
  -- nobody asked for it
  Unknown : Status
  -- it was asked for
  Claimed : Status
  -- the previous session has this entry of it, and so many of its reads are as they were
  Marking : Entry → ℕ → Status
  -- it runs, and was told this
  Running : List Told → Status
  -- it is done
  Finished : Status
  -- its run failed
  Broken : Status

pub record State : Type 0 where
  pub done : List Entry
  pub status : Key → Status

abbrev pub start : State
start = record { done = []; status = λ k. Unknown }

-- the previous session, the inputs, and the runs that the client made
pub record Setting : Type 0 where
  pub past : List Entry
  pub inputs : Inputs
  pub runs : List Run

pub data Event : Type 0 where
  -- a root, or what another key waits for
  Claims : Key → Event
  -- the bytes of an input
  Takes : Key → Value → Event
  -- the previous session has it
  Marks : Key → Entry → Event
  -- the next of its reads then has the value that it had then
  Same : Key → Entry → ℕ → Told → Event
  -- the next of its reads then has another value now: it has to run
  Differs : Key → Entry → ℕ → Told → Value → Event
  -- all are as they were: it keeps its value
  Keeps : Key → Entry → Event
  -- the previous session hasn't it: it has to run
  Starts : Key → Event
  -- its run was told the value of a key
  Reads : Key → List Told → Key → Value → Event
  -- its run wants a key that isn't done, and waits
  Waits : Key → List Told → Key → Event
  -- its run gave a value
  Gives : Key → List Told → Value → Event
  -- its run failed
  Fails : Key → List Told → Event

abbrev pub input_of : Key → Value → Entry
input_of k v = record { key = k; mark = Input; told = []; value = v }

abbrev pub green_of : Entry → Entry
green_of had = record { key = had.key; mark = Green; told = had.told; value = had.value }

abbrev pub executed_of : Key → List Told → Value → Entry
executed_of k told v = record { key = k; mark = Executed; told = told; value = v }

abbrev pub put : (Key → Status) → Key → Status → Key → Status
put status k st q = if bytes_eq k q then st else status q

abbrev pub changed : State → Key → Status → State
changed s k st = record { done = s.done; status = put s.status k st }

abbrev pub finished : State → Entry → State
finished s r = record { done = s.done ++ r ∷ []; status = put s.status r.key Finished }

abbrev pub after : State → Event → State
after s (Claims k) = changed s k Claimed
after s (Takes k v) = finished s (input_of k v)
after s (Marks k had) = changed s k (Marking had 0)
after s (Same k had i t) = changed s k (Marking had (i + 1))
after s (Differs k had i t w) = changed s k (Running [])
after s (Keeps k had) = finished s (green_of had)
after s (Starts k) = changed s k (Running [])
after s (Reads k told q v) = changed s k (Running (told ++ record { key = q; value = v } ∷ []))
after s (Waits k told q) = s
after s (Gives k told v) = finished s (executed_of k told v)
after s (Fails k told) = changed s k Broken

abbrev pub MayStep : Setting → State → Event → Type 0
MayStep over s (Claims k) = s.status k ≡ Unknown
MayStep over s (Takes k v) = (s.status k ≡ Claimed) × (over.inputs k ≡ Some v)
MayStep over s (Marks k had) =
    (s.status k ≡ Claimed) × (over.inputs k ≡ None) × IsIn over.past had × (had.mark ≢ Input) × (had.key ≡ k)
MayStep over s (Same k had i t) =
    (s.status k ≡ Marking had i) × (slice_get had.told i ≡ Some t) × Holds s.done t.key t.value
MayStep over s (Differs k had i t w) =
    (s.status k ≡ Marking had i) × (slice_get had.told i ≡ Some t) × Holds s.done t.key w × (w ≢ t.value)
MayStep over s (Keeps k had) = s.status k ≡ Marking had (length had.told)
MayStep over s (Starts k) =
    (s.status k ≡ Claimed) × (over.inputs k ≡ None) × ((had : Entry) → IsIn over.past had → had.key ≡ k → had.mark ≡ Input)
MayStep over s (Reads k told q v) =
    (s.status k ≡ Running told) × Holds s.done q v × AllByRecursion (λ t. t.key ≢ q) told
MayStep over s (Waits k told q) =
    (s.status k ≡ Running told) × IsNew s.done q × IsIn over.runs (record { key = k; told = told; end = Wanted q })
MayStep over s (Gives k told v) =
    (s.status k ≡ Running told) × IsIn over.runs (record { key = k; told = told; end = Gave v })
MayStep over s (Fails k told) =
    (s.status k ≡ Running told) × IsIn over.runs (record { key = k; told = told; end = Failed })

pub data Legal (over : Setting) : List Event → State → Type 0 where
  none : Legal over [] start
  more : (events : List Event) (s : State) (event : Event) → Legal over events s → MayStep over s event
      → Legal over (events ++ event ∷ []) (after s event)

-- ---- what holds after each legal history

pub record IsMarked (over : Setting) (done : List Entry) (k : Key) (had : Entry) (i : ℕ) : Type 0 where
  pub new : IsNew done k
  pub query : over.inputs k ≡ None
  pub there : IsIn over.past had
  pub no_input : had.mark ≢ Input
  pub key : had.key ≡ k
  pub held : AreHeld done (take i had.told)

pub record IsRunning (over : Setting) (done : List Entry) (k : Key) (told : List Told) : Type 0 where
  pub new : IsNew done k
  pub query : over.inputs k ≡ None
  pub held : AreHeld done told

abbrev pub Fits : Setting → List Entry → Key → Status → Type 0
Fits over done k Unknown = IsNew done k
Fits over done k Claimed = IsNew done k
Fits over done k (Marking had i) = IsMarked over done k had i
Fits over done k (Running told) = IsRunning over done k told
Fits over done k Finished = Unit {0}
Fits over done k Broken = IsNew done k

pub record Sound (over : Setting) (s : State) : Type 0 where
  pub passes : Passes over.past [] s.done
  pub runs : AllByRecursion (λ run. IsIn over.runs run) (runs_of s.done)
  pub agree : Agree over.inputs s.done
  pub each : (k : Key) → Fits over s.done k (s.status k)
