-- Keys that wait for one another.
use Rattle.std.specs.Prelude.{◌≡◌, Bool, true, List, None}
use Rattle.std.specs.List.{AllByRecursion}
use Rattle.redgreen_rules.specs.Programs.{Key, Value, Prog, Ask, Inputs, ComesTo}
use Rattle.redgreen_rules.specs.Runs.{Told, Reached}

-- by answers that fresh runs come to, the key's program is at its read of q
pub record Waits (prog_of : Key → Prog) (inputs : Inputs) (k q : Key) : Type 0 where
  pub query : inputs k ≡ None
  pub told : List Told
  pub fresh : AllByRecursion (λ t. ComesTo prog_of inputs t.key t.value) told
  pub next : Value → Prog
  pub reached : Reached (prog_of k) told (Ask q next)

-- each of these keys waits for one of them
abbrev pub AreStuck : (Key → Prog) → Inputs → (Key → Bool) → Type 0
AreStuck prog_of inputs Stuck = (k : Key) → Stuck k ≡ true → (q : Key) × (Stuck q ≡ true) × Waits prog_of inputs k q
