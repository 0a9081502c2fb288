-- What a session says about a key, by its records.
use Rattle.std.proofs.Common.{◌≡◌, ◌≢◌, ℕ, suc, zero, ◌<◌, ◌≤◌, ◌^◌, Bool, true, false, cond, List, [], ◌∷◌, map, take, length, get_or, find, Option, Some, None, option_map, All, inl, inr, refl, sym, ap, ◌∙◌, subst, arith}
use Rattle.std.specs.Prelude.{Contains, HoldsAt}
use Rattle.std.specs.List.Sorted.{IsNonDecreasingBy, IsPartitionPoint}
use Rattle.std.specs.List.{AllByRecursion}
use Rattle.std.specs.Ordering.{is_eq, ordering_index}
use Rattle.std.specs.declared.cmp.Ordering.{Ordering}
use Rattle.std.specs.declared.cmp.Ordering.TheVariants.{Less, Equal, Greater}
use Rattle.std.proofs.lemmas.Option.{none-some, same_Some}
use Rattle.std.proofs.lemmas.Bool.{cases_lt}
use Rattle.std.proofs.lemmas.List.{get_or-map, length-take-le}
use Rattle.item_ids.specs.declared.key.Key.{Key}
use Rattle.item_ids.specs.declared.key.Key.TheVariants.{Files}
use Rattle.item_ids.specs.Keys.{key_cmp, key_total, kind_of}
use Rattle.item_ids.proofs.Apart.{key_exact, key_itself, test_same, test_itself}
use Rattle.item_ids.specs.Inputs.{rank}
use Rattle.item_ids.specs.KeyLists.{NoneTwice, AreLower}
use Rattle.result_bytes.specs.Values.{IsValue, IsOfKind, canon, kind_of_value}
use Rattle.sessions.specs.Sessions.{RecordValue, SessionValue, IsSession, FitsBehind, AreRecords, IsEdge, IsAbove, AreInside, key_at, entry_of, entry_at, Entry}

-- ---- look-ups

pub find_entry : (rs : List RecordValue) (q : Key) (xs : List RecordValue)
    → find (λ e. is_eq (key_cmp e.key q)) (map (entry_of rs) xs) ≡ option_map (entry_of rs) (find (λ r. is_eq (key_cmp r.key q)) xs)
find_entry rs q [] = refl
find_entry rs q (x ∷ xs) =
    elim (is_eq (key_cmp x.key q)) as (λ b. cond b (Some (entry_of rs x)) (find (λ e. is_eq (key_cmp e.key q)) (map (entry_of rs) xs)) ≡ option_map (entry_of rs) (cond b (Some x) (find (λ r. is_eq (key_cmp r.key q)) xs))) [
      | true ↦ refl
      | false ↦ find_entry rs q xs
    ]

-- what is found stands somewhere
pub found_at : {X : Type 0} (p : X → Bool) (xs : List X) (x : X) → find p xs ≡ Some x → (i : ℕ) × (i < length xs) × (get_or xs i x ≡ x)
found_at p [] x e = absurd (none-some x e)
found_at {X} p (y ∷ ys) x e =
    (elim (p y) as (λ b. cond b (Some y) (find p ys) ≡ Some x → (i : ℕ) × (i < length (y ∷ ys)) × (get_or (y ∷ ys) i x ≡ x)) [
      | true ↦ λ h. let l : 0 < length (y ∷ ys) = omega arith in (0, l, same_Some y x h)
      | false ↦ λ h. let at = found_at p ys x h in let l : suc at.0 < length (y ∷ ys) = let b = at.1 in omega arith in (suc at.0, l, at.2)
    ]) e

-- the first that passes is found
first_found : {X : Type 0} (p : X → Bool) (xs : List X) (i : ℕ) (x : X) → i < length xs → get_or xs i x ≡ x → AllByRecursion (λ y. p y ≡ false) (take i xs) → p x ≡ true → find p xs ≡ Some x
first_found p [] i x lt is none pass = absurd (omega arith)
first_found p (y ∷ ys) zero x lt is none pass = ap (λ b. cond b (Some y) (find p ys)) (ap p is ∙ pass) ∙ ap Some is
first_found p (y ∷ ys) (suc i) x lt is none pass = ap (λ b. cond b (Some y) (find p ys)) none.0 ∙ first_found p ys i x (omega arith) is none.1 pass

-- ---- records of a session

record_fits : (s : SessionValue) → IsSession s → (i : ℕ) (r : RecordValue) → i < length s.records → get_or s.records i r ≡ r → FitsBehind (take i s.records) r
record_fits s session i r lt is = subst (FitsBehind (take i s.records)) is (session.records i r lt)

inside_all : (front : List RecordValue) (key : Key) (n : ℕ) → length front ≤ n → (es : List ℕ) → AllByRecursion (IsEdge front key) es → AllByRecursion (λ e. e < n) es
inside_all front key n le [] h = tt
inside_all front key n le (e ∷ es) h = ((let l = h.0.0 in omega arith), inside_all front key n le es h.1)

pub found_inside : (s : SessionValue) → IsSession s → (q : Key) (r : RecordValue) → find (λ x. is_eq (key_cmp x.key q)) s.records ≡ Some r → AllByRecursion (λ e. e < length s.records) r.edges
found_inside s session q r e =
    let at = found_at (λ x. is_eq (key_cmp x.key q)) s.records r e in
    let fits = record_fits s session at.0 r at.1 at.2 in
    let le : length (take at.0 s.records) ≤ length s.records = let t = length-take-le at.0 s.records (let l = at.1 in omega arith) in let l = at.1 in omega arith in
    inside_all (take at.0 s.records) r.key (length s.records) le r.edges fits.edges

less_not : (o : Ordering) → o ≡ Less → is_eq o ≡ false
less_not Less e = refl
less_not Equal e = absurd cc
less_not Greater e = refl

above_not : (front : List RecordValue) (key : Key) → IsAbove front key → AllByRecursion (λ r. is_eq (key_cmp r.key key) ≡ false) front
above_not [] key h = tt
above_not (r ∷ rs) key h = (less_not (key_cmp r.key key) h.0, above_not rs key h.1)

pub key_of_place : (s : SessionValue) (i : ℕ) (r : RecordValue) → i < length s.records → get_or s.records i r ≡ r → key_at s.records i ≡ r.key
key_of_place s i r lt is = get_or-map (λ (x : RecordValue). x.key) s.records i r Files lt ∙ ap (λ (x : RecordValue). x.key) is

-- a record is what the session says about its key
pub entry_of_place : (s : SessionValue) → IsSession s → (i : ℕ) (r : RecordValue) → i < length s.records → get_or s.records i r ≡ r → entry_at s r.key ≡ Some (entry_of s.records r)
entry_of_place s session i r lt is =
    let fits = record_fits s session i r lt is in
    find_entry s.records r.key s.records
    ∙ ap (option_map (entry_of s.records)) (first_found (λ x. is_eq (key_cmp x.key r.key)) s.records i r lt is (above_not (take i s.records) r.key fits.above) (test_itself r.key r.key refl))

-- ---- what a session keeps of a key that it has

-- what is found passes
pub found_yes : {X : Type 0} (p : X → Bool) (xs : List X) (x : X) → find p xs ≡ Some x → p x ≡ true
found_yes p [] x e = absurd (none-some x e)
found_yes {X} p (y ∷ ys) x e =
    (elim (p y) as (λ b. p y ≡ b → cond b (Some y) (find p ys) ≡ Some x → p x ≡ true) [
      | true ↦ λ pass h. ap p (sym (same_Some y x h)) ∙ pass
      | false ↦ λ fail h. found_yes p ys x h
    ]) refl e

pub some_map : {A B : Type 0} (f : A → B) (o : Option A) (y : B) → option_map f o ≡ Some y → (x : A) × (o ≡ Some x) × (f x ≡ y)
some_map f None y e = absurd (none-some y e)
some_map f (Some x) y e = (x, refl, same_Some (f x) y e)

get_take : {X : Type 0} (xs : List X) (n i : ℕ) (d : X) → i < length (take n xs) → get_or (take n xs) i d ≡ get_or xs i d
get_take xs zero i d lt = absurd (omega arith)
get_take [] (suc n) i d lt = absurd (omega arith)
get_take (x ∷ xs) (suc n) zero d lt = refl
get_take (x ∷ xs) (suc n) (suc i) d lt = get_take xs n i d (omega arith)

take_below : {X : Type 0} (xs : List X) (n i : ℕ) → i < length (take n xs) → i < length xs
take_below xs zero i lt = absurd (omega arith)
take_below [] (suc n) i lt = absurd (omega arith)
take_below (x ∷ xs) (suc n) zero lt = omega arith
take_below (x ∷ xs) (suc n) (suc i) lt = let l = take_below xs n i (omega arith) in omega arith

at_place : (rs : List RecordValue) (e : ℕ) → e < length rs → (r : RecordValue) × (get_or rs e r ≡ r)
at_place [] e lt = absurd (omega arith)
at_place (r ∷ rs) zero lt = (r, refl)
at_place (r ∷ rs) (suc e) lt = at_place rs e (omega arith)

key_in_front : (rs : List RecordValue) (n e : ℕ) → e < length (take n rs) → key_at (take n rs) e ≡ key_at rs e
key_in_front rs n e lt =
    let at = at_place rs e (take_below rs n e lt) in
    get_or-map (λ (x : RecordValue). x.key) (take n rs) e at.0 Files lt
    ∙ (ap (λ (x : RecordValue). x.key) (get_take rs n e at.0 lt)
    ∙ sym (get_or-map (λ (x : RecordValue). x.key) rs e at.0 Files (take_below rs n e lt)))

lower_all : (rs : List RecordValue) (n : ℕ) (q : Key) (es : List ℕ) → AllByRecursion (IsEdge (take n rs) q) es → AreLower q (map (key_at rs) es)
lower_all rs n q [] h = tt
lower_all rs n q (e ∷ es) h = (subst (λ (k : Key). rank k < rank q) (key_in_front rs n e h.0.0) h.0.1, lower_all rs n q es h.1)

edge_of_key : (rs : List RecordValue) (es : List ℕ) → AllByRecursion (λ e. e < length rs) es → (k : Key) (i : ℕ) → i < length (map (key_at rs) es) → get_or (map (key_at rs) es) i k ≡ k
    → (e : ℕ) × (e < length rs) × (key_at rs e ≡ k)
edge_of_key rs [] h k i lt is = absurd (omega arith)
edge_of_key rs (e ∷ es) h k zero lt is = (e, h.0, is)
edge_of_key rs (e ∷ es) h k (suc i) lt is = edge_of_key rs es h.1 k i (omega arith) is

module _ (s : SessionValue) (session : IsSession s) (q : Key) (r : Entry) (has : entry_at s q ≡ Some r) where
  found : (x : RecordValue) × (find (λ x. is_eq (key_cmp x.key q)) s.records ≡ Some x) × (entry_of s.records x ≡ r)
  found = some_map (entry_of s.records) (find (λ x. is_eq (key_cmp x.key q)) s.records) r (sym (find_entry s.records q s.records) ∙ has)

  place : (i : ℕ) × (i < length s.records) × (get_or s.records i found.0 ≡ found.0)
  place = found_at (λ x. is_eq (key_cmp x.key q)) s.records found.0 found.1

  fits : FitsBehind (take place.0 s.records) found.0
  fits = record_fits s session place.0 found.0 place.1 place.2

  same_record_key : found.0.key ≡ q
  same_record_key = test_same found.0.key q (found_yes (λ x. is_eq (key_cmp x.key q)) s.records found.0 found.1)

  -- the record of this entry
  pub has_record : (x : RecordValue) × (i : ℕ) × (i < length s.records) × (get_or s.records i x ≡ x) × (entry_of s.records x ≡ r)
  has_record = (found.0, place.0, place.1, place.2, found.2)

  pub has_value : IsValue r.value
  has_value = subst (λ (x : Entry). IsValue x.value) found.2 fits.kept.value

  pub has_size : length (canon r.value) < 2 ^ 64
  has_size = subst (λ (x : Entry). length (canon x.value) < 2 ^ 64) found.2 fits.kept.size

  pub has_key : r.key ≡ q
  has_key = ap (λ (x : Entry). x.key) (sym found.2) ∙ same_record_key

  pub has_kind : IsOfKind q r.value
  has_kind = ap (λ (x : Entry). kind_of_value x.value) (sym found.2) ∙ (fits.kind ∙ ap kind_of same_record_key)

  pub has_lower : AreLower q r.reads
  has_lower = subst (λ (k : Key). AreLower k r.reads) same_record_key (subst (λ (x : Entry). AreLower found.0.key x.reads) found.2 (lower_all s.records place.0 found.0.key found.0.edges fits.edges))

  pub has_edge : (e : Key) → Contains r.reads e → (x : Entry) × (entry_at s e ≡ Some x)
  has_edge e c =
      let d = subst (λ (x : Entry). Contains x.reads e) (sym found.2) c in
      let at = edge_of_key s.records found.0.edges (found_inside s session q found.0 found.1) e d.0 d.1 d.2 in
      let x = at_place s.records at.0 at.1 in
      (entry_of s.records x.0, ap (entry_at s) (sym at.2 ∙ key_of_place s at.0 x.0 at.1 x.1) ∙ entry_of_place s session at.0 x.0 at.1 x.1)

-- ---- a key that is looked for

-- no record of another key is found
pub none_found : (q : Key) (xs : List RecordValue) → All (λ x. x.key ≢ q) xs → find (λ x. is_eq (key_cmp x.key q)) xs ≡ None
none_found q [] others = refl
none_found q (x ∷ xs) others =
    (elim (is_eq (key_cmp x.key q)) as (λ b. is_eq (key_cmp x.key q) ≡ b → cond b (Some x) (find (λ y. is_eq (key_cmp y.key q)) xs) ≡ None) [
      | true ↦ λ same. absurd (others 0 x (omega arith) (test_same x.key q same))
      | false ↦ λ other. none_found q xs (λ k d lt. others (suc k) d (omega arith))
    ]) refl

pub no_entry : (s : SessionValue) (q : Key) → All (λ x. x.key ≢ q) s.records → entry_at s q ≡ None
no_entry s q others = find_entry s.records q s.records ∙ ap (option_map (entry_of s.records)) (none_found q s.records others)

-- a record of the key is what is found
pub entry_here : (s : SessionValue) → IsSession s → (q : Key) (i : ℕ) (r : RecordValue) → i < length s.records → r ≡ get_or s.records i r → r.key ≡ q → entry_at s q ≡ Some (entry_of s.records r)
entry_here s session q i r lt is same = ap (entry_at s) (sym same) ∙ entry_of_place s session i r lt (sym is)

pub edges_here : (s : SessionValue) → IsSession s → (i : ℕ) (r : RecordValue) → i < length s.records → r ≡ get_or s.records i r → AreInside s.records r.edges
edges_here s session i r lt is =
    let fits = record_fits s session i r lt (sym is) in
    let le : length (take i s.records) ≤ length s.records = let t = length-take-le i s.records (omega arith) in omega arith in
    inside_all (take i s.records) r.key (length s.records) le r.edges fits.edges

-- ---- keys that ascend

above_at : (xs : List RecordValue) (key : Key) → IsAbove xs key → (k : ℕ) (d : RecordValue) → k < length xs → key_cmp (get_or xs k d).key key ≡ Less
above_at [] key above k d lt = absurd (omega arith)
above_at (y ∷ ys) key above zero d lt = above.0
above_at (y ∷ ys) key above (suc k) d lt = above_at ys key above.1 k d (omega arith)

before_place : (rs : List RecordValue) → AreRecords rs → (i j : ℕ) (d : RecordValue) → i < j → j < length rs → key_cmp (get_or rs i d).key (get_or rs j d).key ≡ Less
before_place rs are i j d below lt =
    let fits : FitsBehind (take j rs) (get_or rs j d) = are j d lt in
    let front : i < length (take j rs) = let t = length-take-le j rs (omega arith) in omega arith in
    subst (λ (r : RecordValue). key_cmp r.key (get_or rs j d).key ≡ Less) (get_take rs j i d front) (above_at (take j rs) (get_or rs j d).key fits.above i d front)

below_two : (o : Ordering) → ordering_index o ≤ 2
below_two Less = omega arith
below_two Equal = omega arith
below_two Greater = omega arith

-- of two keys the lower one compares no higher with a third
pub rises : (a b q : Key) → key_cmp a b ≡ Less → ordering_index (key_cmp a q) ≤ ordering_index (key_cmp b q)
rises a b q less =
    (elim (key_cmp b q) as (λ o. key_cmp b q ≡ o → ordering_index (key_cmp a q) ≤ ordering_index o) [
      | Less ↦ λ is. rw (key_total.trans a b q less is) (omega arith)
      | Equal ↦ λ is. rw (subst (λ (k : Key). key_cmp a k ≡ Less) (key_exact b q is) less) (omega arith)
      | Greater ↦ λ is. below_two (key_cmp a q)
    ]) refl

pub records_rise : (rs : List RecordValue) → AreRecords rs → (q : Key) → IsNonDecreasingBy (λ r. ordering_index (key_cmp r.key q)) rs
records_rise rs are q i j d le lt =
    elim (cases_lt i j) [
      | inl below ↦ rises (get_or rs i d).key (get_or rs j d).key q (before_place rs are i j d below lt)
      | inr above ↦ let e : i ≡ j = omega (arith, le, above) in rw e (omega arith)
    ]

differs : (a q : Key) → (key_cmp a q ≡ Equal → ⊥) → a ≢ q
differs a q unequal e = unequal (key_itself a q e)

-- a key that is between two neighbours is none of the records'
pub none_of_them : (rs : List RecordValue) (q : Key) (i : ℕ) → IsPartitionPoint (λ r. key_cmp r.key q ≡ Less) (λ r. key_cmp r.key q ≡ Greater) rs i → All (λ r. r.key ≢ q) rs
none_of_them rs q i parted k d lt =
    elim (cases_lt k i) [
      | inl below ↦ differs (get_or rs k d).key q (λ e. let less = parted.0 k d (omega arith) below in absurd cc)
      | inr above ↦ differs (get_or rs k d).key q (λ e. let greater = parted.1 k d above lt in absurd cc)
    ]

-- the key at a place where it compares equal
pub same_at : (rs : List RecordValue) (q : Key) (i : ℕ) → HoldsAt (λ r. key_cmp r.key q ≡ Equal) rs i → HoldsAt (λ r. r.key ≡ q) rs i
same_at rs q i equal d = key_exact (get_or rs i d).key q (equal d)

-- ---- no edge leads to one key twice

key_there : (rs : List RecordValue) (i : ℕ) (d : RecordValue) → i < length rs → key_at rs i ≡ (get_or rs i d).key
key_there rs i d lt = get_or-map (λ (x : RecordValue). x.key) rs i d Files lt

less_differs : (a b : Key) → key_cmp a b ≡ Less → a ≢ b
less_differs a b less = differs a b (λ e. absurd (cc))

-- the keys of two records differ
pub keys_differ : (rs : List RecordValue) → AreRecords rs → (i j : ℕ) → i < length rs → j < length rs → i ≢ j → key_at rs i ≢ key_at rs j
keys_differ rs are i j li lj n =
    let d = (at_place rs i li).0 in
    let a = key_there rs i d li in
    let b = key_there rs j d lj in
    elim (cases_lt i j) [
      | inl below ↦ λ e. less_differs (get_or rs i d).key (get_or rs j d).key (before_place rs are i j d below lj) (sym a ∙ (e ∙ b))
      | inr above ↦ λ e. less_differs (get_or rs j d).key (get_or rs i d).key (before_place rs are j i d (omega (arith, above, n)) li) (sym b ∙ (sym e ∙ a))
    ]

others_differ : (rs : List RecordValue) → AreRecords rs → (i : ℕ) → i < length rs → (es : List ℕ) → AreInside rs es → AllByRecursion (λ e. e ≢ i) es → AllByRecursion (λ k. k ≢ key_at rs i) (map (key_at rs) es)
others_differ rs are i li [] inside other = tt
others_differ rs are i li (e ∷ es) inside other = (keys_differ rs are e i inside.0 li other.0, others_differ rs are i li es inside.1 other.1)

once_keys : (rs : List RecordValue) → AreRecords rs → (es : List ℕ) → AreInside rs es → NoneTwice (λ e. e) es → NoneTwice (λ k. k) (map (key_at rs) es)
once_keys rs are [] inside distinct = tt
once_keys rs are (e ∷ es) inside distinct = (others_differ rs are e inside.0 es inside.1 distinct.0, once_keys rs are es inside.1 distinct.1)

pub has_once : (s : SessionValue) → IsSession s → (q : Key) (r : Entry) → entry_at s q ≡ Some r → NoneTwice (λ k. k) r.reads
has_once s session q r has =
    let x = found s session q r has in
    let at = place s session q r has in
    let fit = fits s session q r has in
    subst (λ (e : Entry). NoneTwice (λ k. k) e.reads) x.2 (once_keys s.records session.records x.0.edges (found_inside s session q x.0 x.1) fit.once)
