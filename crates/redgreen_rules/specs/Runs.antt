-- How far a run has come, by the answers that it got.
use Rattle.std.specs.Prelude.{◌≡◌, List, [], ◌∷◌, ◌++◌, ◌⊎◌}
use Rattle.redgreen_rules.specs.Programs.{Key, Value, Prog, Ret, Ask}

-- a key that was read, and the answer
pub record Told : Type 0 where
  pub key : Key
  pub value : Value

-- one of the list is x
abbrev pub IsIn : {A : Type 0} → List A → A → Type 0
IsIn [] x = ⊥
IsIn (y ∷ ys) x = (y ≡ x) ⊎ IsIn ys x

-- after these first reads this is what is left of the program
pub data Reached (prog : Prog) : List Told → Prog → Type 0 where
  Start : Reached prog [] prog
  Again : (told : List Told) (k : Key) (f : Value → Prog) (v : Value)
      → Reached prog told (Ask k f) → IsIn told (record { key = k; value = v })
      → Reached prog told (f v)
  First : (told : List Told) (k : Key) (f : Value → Prog) (v : Value)
      → Reached prog told (Ask k f)
      → Reached prog (told ++ record { key = k; value = v } ∷ []) (f v)

-- how a run ended: with a value, at a key whose value it was not told, or without a value
pub data End : Type 0 where
  Gave : Value → End
  Wanted : Key → End
  Failed : End

-- a run that was made: its key, what it was told, in order of the first reads, and how it ended
pub record Run : Type 0 where
  pub key : Key
  pub told : List Told
  pub end : End

-- the program comes to this end by these answers
abbrev pub EndsAs : Prog → List Told → End → Type 0
EndsAs prog told (Gave v) = Reached prog told (Ret v)
EndsAs prog told (Wanted k) = (f : Value → Prog) × Reached prog told (Ask k f)
EndsAs prog told Failed = Unit {0}

-- the run is the one that the key's program makes of these answers: what is believed of a client, and no more
abbrev pub IsRunOf : (Key → Prog) → Run → Type 0
IsRunOf prog_of run = EndsAs (prog_of run.key) run.told run.end

-- the runs lead from one state of a client to another one, by what it says of each
abbrev pub AreMade : {S : Type 0} → (S → Run → S → Type 0) → S → List Run → S → Type 0
AreMade makes s [] t = s ≡ t
AreMade {S} makes s (run ∷ runs) t = (m : S) × makes s run m × AreMade makes m runs t
