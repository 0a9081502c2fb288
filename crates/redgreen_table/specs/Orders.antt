-- Orders of a session's entries, and the one that the session alone decides.
use Rattle.std.specs.Prelude.{◌≡◌, ◌≢◌, ℕ, suc, ◌<◌, ◌⊎◌, List, [], ◌∷◌, ◌++◌, max, if◌then◌else◌}
use Rattle.std.specs.List.{AllByRecursion}
use Rattle.std.specs.Str.{bytes_eq}
use Rattle.std.specs.Ordering.{nat_cmp}
use Rattle.std.specs.Cmp.Lexicographic.{slice_cmp}
use Rattle.std.specs.declared.cmp.Ordering.TheVariants.{Less}
use Rattle.redgreen_rules.specs.Programs.{Key, Value, Prog, Inputs, ComesTo}
use Rattle.redgreen_rules.specs.Runs.{Told, IsIn, IsRunOf}
use Rattle.redgreen_rules.specs.Sessions.{Input, Executed, Entry, Holds, AreHeld, IsNew, Passes, Agree, runs_of}

-- all are among the entries
abbrev pub AreFrom : List Entry → List Entry → Type 0
AreFrom xs ys = AllByRecursion (λ r. IsIn xs r) ys

-- each key once, and each after what it read
abbrev pub IsInOrder : List Entry → List Entry → Type 0
IsInOrder front [] = Unit {0}
IsInOrder front (r ∷ rs) = IsNew front r.key × AreHeld front r.told × IsInOrder (front ++ r ∷ []) rs

-- ---- depths: 0 for what reads nothing, else one more than the deepest of what it read

pub record Deep : Type 0 where
  pub key : Key
  pub depth : ℕ

abbrev pub depth_in : List Deep → Key → ℕ
depth_in [] k = 0
depth_in (d ∷ ds) k = if bytes_eq d.key k then d.depth else depth_in ds k

abbrev pub depth_over : List Deep → List Told → ℕ
depth_over front [] = 0
depth_over front (t ∷ ts) = max (suc (depth_in front t.key)) (depth_over front ts)

abbrev pub IsBefore : Deep → Deep → Type 0
IsBefore a b = (a.depth < b.depth) ⊎ ((a.depth ≡ b.depth) × (slice_cmp nat_cmp a.key b.key ≡ Less))

-- ascending by depth and then by key
abbrev pub AscendFrom : List Deep → List Entry → Type 0
AscendFrom front [] = Unit {0}
AscendFrom front (r ∷ rs) =
    let here : Deep = record { key = r.key; depth = depth_over front r.told } in
    AllByRecursion (λ a. IsBefore a here) front × AscendFrom (front ++ here ∷ []) rs

-- ---- what the roots lead to

pub data IsReached (roots : List Key) (xs : List Entry) : Key → Type 0 where
  root : (k : Key) → IsIn roots k → IsReached roots xs k
  edge : (r : Entry) (t : Told) → IsIn xs r → IsReached roots xs r.key → IsIn r.told t → IsReached roots xs t.key

-- The form of a session that is written: just what the roots lead to, by depth and key. Nothing but the roots and the
-- entries themselves decides it, and a check of it goes once over the entries.
pub record IsCanonical (roots : List Key) (xs : List Entry) : Type 0 where
  pub order : AscendFrom [] xs
  pub only : (r : Entry) → IsIn xs r → IsReached roots xs r.key
  pub rooted : (k : Key) → IsIn roots k → (v : Value) × Holds xs k v

-- ---- one session: what every schedule is to write (a definition; the law is owed)

-- the previous session has the key, not as an input, and whatever it read then fresh runs come to now
pub record MayStayGreen (prog_of : Key → Prog) (inputs : Inputs) (past : List Entry) (k : Key) : Type 0 where
  pub had : Entry
  pub there : IsIn past had
  pub no_input : had.mark ≢ Input
  pub key : had.key ≡ k
  pub fresh : AllByRecursion (λ t. ComesTo prog_of inputs t.key t.value) had.told

-- nothing was run that may stay green
abbrev pub RunsOnlyChanged : (Key → Prog) → Inputs → List Entry → List Entry → Type 0
RunsOnlyChanged prog_of inputs past xs =
    AllByRecursion (λ r. r.mark ≡ Executed → MayStayGreen prog_of inputs past r.key → ⊥) xs

pub record IsBuilt (prog_of : Key → Prog) (inputs : Inputs) (past : List Entry) (roots : List Key) (xs : List Entry) : Type 0 where
  pub passes : Passes past [] xs
  pub runs : AllByRecursion (IsRunOf prog_of) (runs_of xs)
  pub agree : Agree inputs xs
  pub changed : RunsOnlyChanged prog_of inputs past xs
  pub canonical : IsCanonical roots xs
