-- When a result is kept though the answer to a key that it read changes.
use Rattle.std.specs.Prelude.{◌≡◌, ◌≢◌, List, [], map, Contains, if◌then◌else◌}
use Rattle.std.specs.Ordering.{is_eq}
use Rattle.item_ids.specs.declared.key.Key.{Key}
use Rattle.item_ids.specs.Keys.{key_cmp}
use Rattle.result_bytes.specs.declared.value.Value.{Value}
use Rattle.recorder.specs.Backed.{ReadValue}
use Rattle.recorder.specs.Programs.{Prog, runs, asks}
use Rattle.keeping.specs.Follows.{Follows}

-- a read, but answered by b if it is one of k
abbrev pub read_with : Key → Value → ReadValue → ReadValue
read_with k b t =
    record { key = t.key; value = if is_eq (key_cmp t.key k) then b else t.value }

-- the reads with b as the answer to k
abbrev pub told_with : Key → Value → List ReadValue → List ReadValue
told_with k b told = map (read_with k b) told

-- a run that read a as the answer to k and gave v reads the same keys and gives v if it reads b
abbrev pub KeptBy : Prog → Key → Value → Value → Value → Type 0
KeptBy prog k a b v =
    (told : List ReadValue) → Contains told (record { key = k; value = a }) → Follows prog told v
    → Follows prog (told_with k b told) v

-- ---- the same by answers of all keys

-- two ways to answer are the same but at k
abbrev pub AlikeBut : Key → (Key → Value) → (Key → Value) → Type 0
AlikeBut k m n = (x : Key) → x ≢ k → m x ≡ n x

-- whatever the other answers are: if a run with a as the answer to k gives v, one with b gives v, and asks
-- the same
abbrev pub TakesSame : Prog → Key → Value → Value → Value → Type 0
TakesSame prog k a b v =
    (m n : Key → Value) → AlikeBut k m n → m k ≡ a → n k ≡ b → runs prog m ≡ v
    → (runs prog n ≡ v) × (asks prog n [] ≡ asks prog m [])

-- what takes the same is kept
abbrev pub KeptLaw : Type 0
KeptLaw = (prog : Prog) (k : Key) (a b v : Value) → TakesSame prog k a b v → KeptBy prog k a b v
