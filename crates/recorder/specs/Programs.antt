-- Query programs: which keys are asked, one after the other, and what comes of the answers.
use Rattle.std.specs.Prelude.{◌≡◌, ◌<◌, ℕ, if◌then◌else◌, List, [], ◌∷◌, ◌++◌, Contains, drop, None, IfSome, Result, IfOk, IfErr}
use Rattle.item_ids.specs.declared.key.Key.{Key}
use Rattle.item_ids.specs.Inputs.{rank}
use Rattle.result_bytes.specs.declared.value.Value.{Value}
use Rattle.result_bytes.specs.Values.{IsOfKind}
use Rattle.named_files.specs.Projects.{IsProject}
use Rattle.recorder.specs.Projects.{Project}
use Rattle.recorder.specs.Backed.{Meaning, ReadLists, ReadValue, InputLaws, is_seen}
use Rattle.recorder.specs.Recording.{Recording, IsUnread, key_of}
use Rattle.recorder.specs.Runs.{TellsFault}
use Rattle.recorder.specs.declared.runner.RunFault.{RunFault}

-- a value, or a key to ask and what follows each answer
pub data Prog : Type 0 where
  Ret : Value → Prog
  Ask : Key → (Value → Prog) → Prog

-- ---- what a program means, if m answers

-- the value that comes out
unfoldable pub runs : Prog → (Key → Value) → Value
runs (Ret v) m = v
runs (Ask k f) m = runs (f (m k)) m

-- the keys that are asked after those seen, each where it is asked first
unfoldable pub asks : Prog → (Key → Value) → List Key → List Key
asks (Ret v) m seen = []
asks (Ask k f) m seen =
    if is_seen seen k then asks (f (m k)) m seen else k ∷ asks (f (m k)) m (seen ++ k ∷ [])

-- whatever the answers, keys of lower rank than q are asked and a value of q's kind comes out
unfoldable pub Fits : Key → Prog → Type 0
Fits q (Ret v) = IsOfKind q v
Fits q (Ask k f) = (rank k < rank q) × ((v : Value) → Fits q (f v))

-- In every project prog gives q its value and asks what q reads. Whatever the answers, it asks keys
-- of lower rank than q and gives a value of its kind.
pub record TiedAt (mean : Meaning) (reads : ReadLists) (q : Key) (prog : Prog) : Type 0 where
  pub means : (p : Project) → IsProject p → mean p q ≡ runs prog (mean p)
  pub asked : (p : Project) → IsProject p → reads p q ≡ asks prog (mean p) []
  pub fits : Fits q prog

-- The inputs are those of the project and read nothing, and every other key is tied to its program.
pub record Tied (prog_of : Key → Prog) (mean : Meaning) (reads : ReadLists) : Type 0 where
  pub inputs : (p : Project) → IsProject p → InputLaws p (mean p) (reads p)
  pub each : (q : Key) → 0 < rank q → TiedAt mean reads q (prog_of q)

-- ---- how far a run has come

-- after these first reads the program stands at the last one
pub data Reached (prog : Prog) : List ReadValue → Prog → Type 0 where
  Start : Reached prog [] prog
  Again : (told : List ReadValue) (k : Key) (f : Value → Prog) (v : Value)
      → Reached prog told (Ask k f) → Contains told (record { key = k; value = v })
      → Reached prog told (f v)
  First : (told : List ReadValue) (k : Key) (f : Value → Prog) (v : Value)
      → Reached prog told (Ask k f) → IsUnread k told
      → Reached prog (told ++ record { key = k; value = v } ∷ []) (f v)

-- with this recorder a run of prog stands at p
pub record IsAt {D : Type 0} (prog : Prog) (r : Recording D) (p : Prog) : Type 0 where
  pub reached : Reached prog r.told p
  pub unrefused : r.refused ≡ None

-- p asks k, for the first time
abbrev pub IsAsked : List ReadValue → Prog → Key → Type 0
IsAsked told p k = IsUnread k told × ((f : Value → Prog) × (p ≡ Ask k f))

-- with this recorder a run of prog has given up: a key was refused, or memory ran out
pub record Halts {D : Type 0} (prog : Prog) (e : RunFault) (r : Recording D) : Type 0 where
  pub rest : Prog
  pub reached : Reached prog r.told rest
  pub refused : IfSome (key_of r) (IsAsked r.told rest)
  pub fault : TellsFault r e

-- ---- steps: parts of a program, which go on with the value that they give

-- Whatever program begins with the step stands behind it, with its value x.
pub record Goes {X D : Type 0} (step : (X → Prog) → Prog) (old : Recording D) (x : X)
    (new : Recording D) : Type 0 where
  pub goes : (prog : Prog) (k : X → Prog) → IsAt prog old (step k) → IsAt prog new (k x)

-- Whatever program begins with the step has given up in it.
pub record GivesUp {X D : Type 0} (step : (X → Prog) → Prog) (old : Recording D) (e : RunFault)
    (new : Recording D) : Type 0 where
  pub halts : (prog : Prog) (k : X → Prog) → IsAt prog old (step k) → Halts prog e new

-- With a recorder that hadn't read, a step was performed that is the whole of prog.
pub record Performs {D : Type 0} (prog : Prog) (old : Recording D) (result : Result Value RunFault)
    (new : Recording D) : Type 0 where
  pub unread : old.told ≡ []
  pub unrefused : old.refused ≡ None
  pub step : (Value → Prog) → Prog
  pub whole : step Ret ≡ prog
  pub ok : IfOk result (λ v. Goes step old v new)
  pub err : IfErr result (λ e. GivesUp step old e new)

-- a step for each of a list, which takes a state along
unfoldable pub each : {A S : Type 0} → (A → S → (S → Prog) → Prog) → List A → S → (S → Prog) → Prog
each step [] s k = k s
each step (a ∷ rest) s k = step a s (λ t. each step rest t k)

-- A loop over xs that began with s at old stands before the item i, with t at new.
pub record LoopAt {A S D : Type 0} (step : A → S → (S → Prog) → Prog) (xs : List A) (s : S)
    (old : Recording D) (i : ℕ) (t : S) (new : Recording D) : Type 0 where
  pub goes : (prog : Prog) (k : S → Prog) → IsAt prog old (each step xs s k)
      → IsAt prog new (each step (drop i xs) t k)
