-- Queries of a client, and what a fresh run gives.
use Rattle.std.specs.Prelude.{◌≡◌, ℕ, List, Option, Some, None}

-- keys and values are bytes
abbrev pub Key : Type 0
Key = List ℕ

abbrev pub Value : Type 0
Value = List ℕ

-- a value, or a key to read and what follows on each answer
pub data Prog : Type 0 where
  Ret : Value → Prog
  Ask : Key → (Value → Prog) → Prog

-- the bytes of an input; none for a key that is no input
abbrev pub Inputs : Type 0
Inputs = Key → Option Value

-- A fresh run of this key comes to this value: an input's bytes, or what its program evaluates to if each key that it
-- reads is run afresh too.
mutual
  pub data ComesTo (prog_of : Key → Prog) (inputs : Inputs) : Key → Value → Type 0 where
    input : (k : Key) (v : Value) → inputs k ≡ Some v → ComesTo prog_of inputs k v
    query : (k : Key) (v : Value) → inputs k ≡ None → Evaluates prog_of inputs (prog_of k) v → ComesTo prog_of inputs k v

  pub data Evaluates (prog_of : Key → Prog) (inputs : Inputs) : Prog → Value → Type 0 where
    ret : (v : Value) → Evaluates prog_of inputs (Ret v) v
    ask : (k : Key) (f : Value → Prog) (x v : Value) → ComesTo prog_of inputs k x
        → Evaluates prog_of inputs (f x) v → Evaluates prog_of inputs (Ask k f) v
