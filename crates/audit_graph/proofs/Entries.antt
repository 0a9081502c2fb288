-- What a session says about a key, by its records, and lists of entries.
use Rattle.std.proofs.Common.{◌≡◌, ℕ, suc, zero, ◌+◌, ◌<◌, List, [], ◌∷◌, ◌++◌, take, length, get_or, Option, Some, None, slice_get, refl, sym, ap, ◌∙◌, subst, arith, ◌↔◌, ◌⊎◌, inl, inr}
use Rattle.std.specs.Prelude.{Contains, MatchOption}
use Rattle.std.specs.List.{AllByRecursion}
use Rattle.std.specs.Ordering.{is_eq}
use Rattle.std.proofs.lemmas.List.{get_or-map, length-map, take_more}
use Rattle.std.proofs.lemmas.Option.{none-some, same_Some, slice_get-get_or, slice_get_within, get_or_from_slice_get}
use Rattle.item_ids.specs.declared.key.Key.{Key}
use Rattle.item_ids.specs.Keys.{key_cmp, kind_of}
use Rattle.item_ids.specs.Inputs.{is_input}
use Rattle.item_ids.proofs.Lists.{all_push}
use Rattle.sessions.specs.Marks.{is_input_mark}
use Rattle.sessions.specs.Sessions.{RecordValue, SessionValue, IsSession, FitsBehind, Entry, entry_of, entries, entry_at}
use Rattle.sessions.proofs.EntryRules.{found_at, has_key}
use Rattle.graph_rules.proofs.NextRules.{all_at}
use Rattle.audit_graph.specs.Firsts.{IsFirstWithout}

-- an item at a place
pub item_at : {X : Type 0} (xs : List X) (i : ℕ) → i < length xs → (x : X) × (get_or xs i x ≡ x)
item_at [] i lt = absurd (omega arith)
item_at (x ∷ xs) zero lt = (x, refl)
item_at (x ∷ xs) (suc i) lt = item_at xs i (omega arith)

-- what a session says about a key is what one of its records says
pub told_by : (s : SessionValue) (q : Key) (r : Entry) → entry_at s q ≡ Some r
    → (i : ℕ) × (x : RecordValue) × (i < length s.records) × (get_or s.records i x ≡ x) × (entry_of s.records x ≡ r)
told_by s q r has =
    let at = found_at (λ e. is_eq (key_cmp e.key q)) (entries s) r has in
    let lt : at.0 < length s.records = omega (arith, at.1, length-map s.records (entry_of s.records)) in
    let x = item_at s.records at.0 lt in (
      at.0,
      x.0,
      lt,
      x.1,
      ap (entry_of s.records) (sym x.1) ∙ (sym (get_or-map (entry_of s.records) s.records at.0 x.0 r lt) ∙ at.2),
    )

pub marked : (s : SessionValue) → IsSession s → (q : Key) (r : Entry) → entry_at s q ≡ Some r
    → is_input_mark r.mark ≡ is_input (kind_of q)
marked s session q r has =
    let t = told_by s q r has in
    let fits = subst (FitsBehind (take t.0 s.records)) t.3 (session.records t.0 t.1 t.2) in
    ap (λ (e : Entry). is_input_mark e.mark) (sym t.4)
    ∙ (fits.marked ∙ ap (λ k. is_input (kind_of k)) (ap (λ (e : Entry). e.key) t.4 ∙ has_key s session q r has))

-- what holds of all entries holds of a key's entry
pub all_told : (P : Entry → Type 0) (s : SessionValue) → AllByRecursion P (entries s) → (q : Key) (r : Entry) → entry_at s q ≡ Some r → P r
all_told P s all q r has = all_at P (entries s) all r (found_at (λ e. is_eq (key_cmp e.key q)) (entries s) r has)

-- ---- the first item without something

-- one more item that has it
pub one_more : {X : Type 0} (P : X → Type 0) (xs : List X) (i : ℕ) (x : X) → slice_get xs i ≡ Some x → AllByRecursion P (take i xs) → P x → AllByRecursion P (take (i + 1) xs)
one_more P xs i x is a p =
    let lt = slice_get_within xs i x is in
    subst (AllByRecursion P) (sym (take_more xs i x lt)) (all_push P (take i xs) (get_or xs i x) a (subst P (sym (get_or_from_slice_get xs i x x is)) p))

-- what is had by just the same items
module _ {X : Type 0} (P Q : X → Type 0) (alike : (x : X) → P x ↔ Q x) where
  pub all_alike : (xs : List X) → AllByRecursion P xs → AllByRecursion Q xs
  all_alike [] a = tt
  all_alike (x ∷ xs) a = ((alike x).0 a.0, all_alike xs a.1)

  pub first_alike : (xs : List X) (o : Option ℕ) → MatchOption o (AllByRecursion P xs) (IsFirstWithout P xs) → MatchOption o (AllByRecursion Q xs) (IsFirstWithout Q xs)
  first_alike xs None a = all_alike xs a
  first_alike xs (Some i) f = record {
    item = f.item;
    here = f.here;
    before = all_alike (take i xs) f.before;
    lacks = λ q. f.lacks ((alike f.item).1 q);
  }

-- ---- entries at a place

pub entry_there : (s : SessionValue) (i : ℕ) (x : RecordValue) → i < length s.records → x ≡ get_or s.records i x → slice_get (entries s) i ≡ Some (entry_of s.records x)
entry_there s i x lt is =
    let l : i < length (entries s) = omega (arith, lt, length-map s.records (entry_of s.records)) in
    slice_get-get_or (entries s) i (entry_of s.records x) l
    ∙ ap Some (get_or-map (entry_of s.records) s.records i x (entry_of s.records x) lt ∙ ap (entry_of s.records) (sym is))

-- ---- items of a list

pub nowhere : {X : Type 0} (x : X) → Contains [] x → ⊥
nowhere x c = absurd (let b = c.1 in omega arith)

pub contains_first : {X : Type 0} (x : X) (xs : List X) → Contains (x ∷ xs) x
contains_first x xs = let l : 0 < length (x ∷ xs) = omega arith in (0, l, refl)

pub contains_later : {X : Type 0} (x : X) (xs : List X) (z : X) → Contains xs z → Contains (x ∷ xs) z
contains_later x xs z c = let l : suc c.0 < length (x ∷ xs) = (let b = c.1 in omega arith) in (suc c.0, l, c.2)

cases_at : {X : Type 0} (x : X) (xs : List X) (z : X) (k : ℕ) → k < length (x ∷ xs) → get_or (x ∷ xs) k z ≡ z → (x ≡ z) ⊎ Contains xs z
cases_at x xs z zero lt is = inl is
cases_at x xs z (suc k) lt is = let l : k < length xs = omega arith in inr (k, l, is)

pub contains_cases : {X : Type 0} (x : X) (xs : List X) (z : X) → Contains (x ∷ xs) z → (x ≡ z) ⊎ Contains xs z
contains_cases x xs z c = cases_at x xs z c.0 c.1 c.2

-- what stands at a place
pub contains_there : {X : Type 0} (xs : List X) (i : ℕ) (x : X) → slice_get xs i ≡ Some x → Contains xs x
contains_there [] i x is = absurd (none-some x is)
contains_there (y ∷ ys) zero x is = subst (Contains (y ∷ ys)) (same_Some y x is) (contains_first y ys)
contains_there (y ∷ ys) (suc i) x is = contains_later y ys x (contains_there ys i x is)
