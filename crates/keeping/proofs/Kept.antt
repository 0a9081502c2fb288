-- A run of which one answer changes, and which takes the same.
use Rattle.std.proofs.Common.{◌≡◌, ◌≢◌, Bool, true, false, List, [], ◌∷◌, ◌++◌, map, refl, sym, ap, subst, ◌∙◌, if◌then◌else◌}
use Rattle.std.specs.List.{AllByRecursion}
use Rattle.std.specs.Ordering.{is_eq}
use Rattle.std.proofs.lemmas.List.{append-nil}
use Rattle.item_ids.specs.declared.key.Key.{Key}
use Rattle.item_ids.specs.Keys.{key_cmp}
use Rattle.item_ids.specs.KeyLists.{NoneTwice}
use Rattle.item_ids.proofs.Apart.{test_same, test_itself}
use Rattle.result_bytes.specs.declared.value.Value.{Value}
use Rattle.recorder.specs.Backed.{ReadValue, GivesEach, keys}
use Rattle.recorder.specs.Programs.{Ret, runs, asks, Reached, Start}
use Rattle.recorder.proofs.Recorded.{all_at}
use Rattle.keeping.specs.Kept.{read_with, told_with, AlikeBut, KeptLaw}
use Rattle.keeping.proofs.Runs.{read_by, reached_runs, reached_asks, reached_once, goes_on}

-- ---- answers by what was read

abbrev look : List ReadValue → Value → Key → Value
look [] d x = d
look (t ∷ ts) d x = if is_eq (key_cmp t.key x) then t.value else look ts d x

looks : (told : List ReadValue) (d : Value) → NoneTwice (λ (t : ReadValue). t.key) told → GivesEach (look told d) told
looks [] d o = tt
looks (t ∷ ts) d o = (
  ap (λ (b : Bool). if b then t.value else look ts d t.key) (test_itself t.key t.key refl),
  both ts o.0 (looks ts d o.1),
)
  where
    past : (s : ReadValue) → s.key ≢ t.key → (b : Bool) → is_eq (key_cmp t.key s.key) ≡ b → (if b then t.value else look ts d s.key) ≡ look ts d s.key
    past s ne true e = absurd (ne (sym (test_same t.key s.key e)))
    past s ne false e = refl

    both : (xs : List ReadValue) → AllByRecursion (λ (s : ReadValue). s.key ≢ t.key) xs → GivesEach (look ts d) xs → GivesEach (look (t ∷ ts) d) xs
    both [] n g = tt
    both (s ∷ ss) n g = (past s n.0 (is_eq (key_cmp t.key s.key)) refl ∙ g.0, both ss n.1 g.1)

-- m, but b for k
abbrev but : Key → Value → (Key → Value) → Key → Value
but k b m x = if is_eq (key_cmp x k) then b else m x

but_alike : (k : Key) (b : Value) (m : Key → Value) → AlikeBut k m (but k b m)
but_alike k b m x ne = go (is_eq (key_cmp x k)) refl
  where
    go : (t : Bool) → is_eq (key_cmp x k) ≡ t → m x ≡ (if t then b else m x)
    go true e = absurd (ne (test_same x k e))
    go false e = refl

but_there : (k : Key) (b : Value) (m : Key → Value) → but k b m k ≡ b
but_there k b m = ap (λ (t : Bool). if t then b else m k) (test_itself k k refl)

told_but : (k : Key) (b : Value) (m : Key → Value) (told : List ReadValue) → GivesEach m told → map (read_by (but k b m)) (keys told) ≡ told_with k b told
told_but k b m [] g = refl
told_but k b m (t ∷ ts) g =
    ap (λ (v : Value). record { key = t.key; value = if is_eq (key_cmp t.key k) then b else v } ∷ map (read_by (but k b m)) (keys ts)) g.0
    ∙ ap (λ (rest : List ReadValue). read_with k b t ∷ rest) (told_but k b m ts g.1)

-- ---- the law

ended : (v : Value) (m : Key → Value) → runs (Ret v) m ≡ v
unfolding runs
ended v m = refl

asks_none : (v : Value) (m : Key → Value) (told : List ReadValue) → keys told ++ asks (Ret v) m (keys told) ≡ keys told
unfolding asks
asks_none v m told = append-nil (keys told)

pub kept_law : KeptLaw
kept_law prog k a b v takes told has h =
    subst (λ (ts : List ReadValue). Reached prog ts (Ret v)) same
    (subst (λ (w : Value). Reached prog (map (read_by n) (asks prog n [])) (Ret w)) both.0 (goes_on prog n [] prog Start tt))
  where
    m : Key → Value
    m = look told a

    n : Key → Value
    n = but k b m

    g : GivesEach m told
    g = looks told a (reached_once prog told (Ret v) h)

    both : (runs prog n ≡ v) × (asks prog n [] ≡ asks prog m [])
    both = takes m n (but_alike k b m) (all_at (λ (t : ReadValue). m t.key ≡ t.value) told (record { key = k; value = a }) has g) (but_there k b m) (reached_runs prog m told (Ret v) h g ∙ ended v m)

    same : map (read_by n) (asks prog n []) ≡ told_with k b told
    same = ap (map (read_by n)) (both.1 ∙ reached_asks prog m told (Ret v) h g ∙ asks_none v m told) ∙ told_but k b m told g
