-- Sessions, when one passes over the one before it, and the runs that it rests on.
use Rattle.std.specs.Prelude.{◌≡◌, ◌≢◌, List, [], ◌∷◌, ◌++◌, Option, Some, None, if◌then◌else◌}
use Rattle.std.specs.List.{AllByRecursion}
use Rattle.std.specs.Str.{bytes_eq}
use Rattle.redgreen_rules.specs.Programs.{Key, Value, Prog, Inputs, ComesTo}
use Rattle.redgreen_rules.specs.Runs.{Told, IsIn, Run, Gave}

pub data Mark : Type 0 where
  Input : Mark
  Green : Mark
  Executed : Mark

-- a key, how it became done, what it read, and its value
pub record Entry : Type 0 where
  pub key : Key
  pub mark : Mark
  pub told : List Told
  pub value : Value

-- the entries, each after those that it reads
abbrev pub Session : Type 0
Session = List Entry

-- an entry has this key and this value
pub record Holds (entries : List Entry) (k : Key) (v : Value) : Type 0 where
  pub entry : Entry
  pub there : IsIn entries entry
  pub key : entry.key ≡ k
  pub value : entry.value ≡ v

-- what was read are values of entries
abbrev pub AreHeld : List Entry → List Told → Type 0
AreHeld entries told = AllByRecursion (λ t. Holds entries t.key t.value) told

-- no entry has the key
abbrev pub IsNew : List Entry → Key → Type 0
IsNew entries k = AllByRecursion (λ r. r.key ≢ k) entries

-- ---- what an audit checks of an entry, by the previous session and the entries before it

-- the same key read the same values, and has the same value
pub record IsSameEntry (had r : Entry) : Type 0 where
  pub key : had.key ≡ r.key
  pub told : had.told ≡ r.told
  pub value : had.value ≡ r.value

-- the previous session has the same entry, and not as an input
pub record IsTakenOver (past : List Entry) (r : Entry) : Type 0 where
  pub had : Entry
  pub there : IsIn past had
  pub no_input : had.mark ≢ Input
  pub again : IsSameEntry had r

abbrev pub PassesBy : List Entry → List Entry → Entry → Mark → Type 0
PassesBy past front r Input = r.told ≡ []
PassesBy past front r Green = AreHeld front r.told × IsTakenOver past r
PassesBy past front r Executed = AreHeld front r.told

abbrev pub Passes : List Entry → List Entry → List Entry → Type 0
Passes past front [] = Unit {0}
Passes past front (r ∷ rs) =
    IsNew front r.key × PassesBy past front r r.mark × Passes past (front ++ r ∷ []) rs

-- each session passes over the previous one
abbrev pub ArePassed : List Entry → List Session → Type 0
ArePassed past [] = Unit {0}
ArePassed past (s ∷ ss) = Passes past [] s × ArePassed s ss

-- the last session
abbrev pub last_from : Session → List Session → Session
last_from s [] = s
last_from s (t ∷ ss) = last_from t ss

abbrev pub last_of : List Session → Session
last_of ss = last_from [] ss

-- ---- the runs that it leaves to the client: those of the executed entries, in order

abbrev pub run_of : Entry → Run
run_of r = record { key = r.key; told = r.told; end = Gave r.value }

abbrev pub run_by : Mark → Entry → List Run
run_by Input r = []
run_by Green r = []
run_by Executed r = run_of r ∷ []

abbrev pub runs_of : List Entry → List Run
runs_of [] = []
runs_of (r ∷ rs) = run_by r.mark r ++ runs_of rs

abbrev pub runs_in : List Session → List Run
runs_in [] = []
runs_in (s ∷ ss) = runs_of s ++ runs_in ss

-- ---- the inputs of a session

abbrev pub AgreesBy : Inputs → Entry → Mark → Type 0
AgreesBy inputs r Input = inputs r.key ≡ Some r.value
AgreesBy inputs r Green = inputs r.key ≡ None
AgreesBy inputs r Executed = inputs r.key ≡ None

-- for each key of the session the inputs have what it has: an input's bytes, and nothing for any other key
abbrev pub Agree : Inputs → List Entry → Type 0
Agree inputs entries = AllByRecursion (λ r. AgreesBy inputs r r.mark) entries

abbrev pub input_by : Mark → Value → Option Value
input_by Input v = Some v
input_by Green v = None
input_by Executed v = None

-- the inputs that the session has, and no other ones
abbrev pub inputs_of : List Entry → Inputs
inputs_of [] k = None
inputs_of (r ∷ rs) k = if bytes_eq r.key k then input_by r.mark r.value else inputs_of rs k

-- ---- what an accepted chain says

-- Over any inputs that agree with the session, a fresh run of each of its keys comes to the value that it has, and to no
-- other.
pub record IsFresh (prog_of : Key → Prog) (session : Session) : Type 0 where
  pub value : (inputs : Inputs) → Agree inputs session → (k : Key) (v : Value) → Holds session k v
      → ComesTo prog_of inputs k v
  pub alone : (inputs : Inputs) → Agree inputs session → (k : Key) (v : Value) → Holds session k v
      → (w : Value) → ComesTo prog_of inputs k w → v ≡ w
