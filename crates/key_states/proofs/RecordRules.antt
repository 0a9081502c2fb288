-- The records of keys in order make a session.
use Rattle.std.proofs.Common.{◌≡◌, ◌≢◌, inl, inr, ℕ, zero, suc, ◌+◌, ◌<◌, ◌≤◌, List, [], ◌∷◌, ◌++◌, map, take, length, get_or, refl, sym, ap, ◌∙◌, subst, eq-or-lt_of_le, arith}
use Rattle.std.specs.Prelude.{Contains}
use Rattle.std.specs.List.{AllByRecursion}
use Rattle.std.specs.declared.cmp.Ordering.TheVariants.{Less}
use Rattle.std.proofs.lemmas.Bool.{cases_lt}
use Rattle.std.proofs.lemmas.List.{get_or-map, get_or-take, length-take-le, length-map, map-append, take_more}
use Rattle.std.proofs.lemmas.List.Elements.{All-contains, All-from_recursion}
use Rattle.item_ids.specs.declared.key.Key.{Key}
use Rattle.item_ids.specs.declared.key.Key.TheVariants.{Files}
use Rattle.item_ids.specs.Keys.{key_cmp, key_total}
use Rattle.item_ids.proofs.Apart.{key_itself}
use Rattle.item_ids.proofs.Lists.{all_push}
use Rattle.item_ids.specs.KeyLists.{AreLower, NoneTwice}
use Rattle.item_ids.specs.Inputs.{rank}
use Rattle.ordered_names.specs.Order.{IsAscendingBy}
use Rattle.result_bytes.specs.declared.value.Value.{Value}
use Rattle.recorder.specs.Projects.{Project}
use Rattle.sessions.specs.declared.mark.Mark.{Mark}
use Rattle.sessions.specs.Sessions.{RecordValue, Entry, key_at, entry_of, IsAbove, IsEdge, AreRecords}
use Rattle.graph_rules.specs.Steps.{Status, Done, State}
use Rattle.graph_rules.specs.Sound.{IsDoneInOrder, IsInOrderAt, IsInOrder}
use Rattle.graph_rules.specs.Graphs.{IsReached, KeyBefore, AreAscendingByKey, IsEntryOf, AreClosed}
use Rattle.key_states.specs.Reached.{Ascend, key_in, AreReached, IsDoneRecord, AreDoneRecords}

-- ---- keys in order

before_all : (k : Key) (ks : List Key) (j : ℕ) (d : Key) → AllByRecursion (KeyBefore k) ks → j < length ks → KeyBefore k (get_or ks j d)
before_all k [] j d h lt = absurd (omega arith)
before_all k (x ∷ ks) zero d h lt = h.0
before_all k (x ∷ ks) (suc j) d h lt = before_all k ks j d h.1 (omega arith)

pub before_place : (ks : List Key) (i j : ℕ) (d : Key) → Ascend ks → i < j → j < length ks → KeyBefore (get_or ks i d) (get_or ks j d)
before_place [] i j d up below lt = absurd (omega arith)
before_place (k ∷ ks) i zero d up below lt = absurd (omega arith)
before_place (k ∷ ks) zero (suc j) d up below lt = before_all k ks j d up.0 (omega arith)
before_place (k ∷ ks) (suc i) (suc j) d up below lt = before_place ks i j d up.1 (omega arith) (omega arith)

-- ---- records behind one another

get_take : {X : Type 0} (xs : List X) (n i : ℕ) (d : X) → i < n → get_or (take n xs) i d ≡ get_or xs i d
get_take xs n i d lt = get_or-take n xs i d lt

-- an item of the front stands before the place
front_place : {X : Type 0} (xs : List X) (n : ℕ) → n ≤ length xs → (x : X) → Contains (take n xs) x → (j : ℕ) × (j < n) × (get_or xs j x ≡ x)
front_place xs n le x has =
    let lt : has.0 < n = omega (arith, has.1, length-take-le n xs le) in
    (has.0, lt, sym (get_take xs n has.0 x lt) ∙ has.2)

all_where : {X : Type 0} (P : X → Type 0) (xs : List X) → ((x : X) → Contains xs x → P x) → AllByRecursion P xs
all_where P [] h = tt
all_where P (x ∷ xs) h =
    let l : 0 < length (x ∷ xs) = omega arith in
    (h x (0, l, refl), all_where P xs (λ e has. let l : suc has.0 < length (x ∷ xs) = let b = has.1 in omega arith in h e (suc has.0, l, has.2)))

-- keys that are told apart stand at places that are
others : (f : ℕ → Key) (e : ℕ) (es : List ℕ) → AllByRecursion (λ k. k ≢ f e) (map f es) → AllByRecursion (λ m. m ≢ e) es
others f e [] h = tt
others f e (x ∷ es) h = ((λ same. h.0 (ap f same)), others f e es h.1)

distinct : (f : ℕ → Key) (es : List ℕ) → NoneTwice (λ k. k) (map f es) → NoneTwice (λ e. e) es
distinct f [] h = tt
distinct f (e ∷ es) h = (others f e es h.0, distinct f es h.1)

in_order : (s : State) (q : Key) (x : Status) (v : Value) (es : List Key) (m : Mark) → x ≡ Done v es m → IsInOrderAt s q x → IsDoneInOrder s q v es m
in_order s q x v es m is h = subst (IsInOrderAt s q) is h

module _ (lesser : (a b : Key) → rank a < rank b → key_cmp a b ≡ Less) where
  -- a place whose key is of lower rank is in front
  in_front : (ks : List Key) (i e : ℕ) → Ascend ks → i < length ks → e < length ks → rank (key_in ks e) < rank (key_in ks i) → e < i
  in_front ks i e up li le lower =
      elim (cases_lt e i) [
        | inl below ↦ below
        | inr above ↦ elim (eq-or-lt_of_le above) [
          | inl same ↦ absurd (let n : rank (key_in ks e) ≡ rank (key_in ks i) = ap (λ (k : ℕ). rank (key_in ks k)) (sym same) in omega (arith, n, lower))
          | inr more ↦ absurd (
              let here = before_place ks i e Files up more le in
              let there = lesser (key_in ks e) (key_in ks i) lower in
              let none = key_total.trans (key_in ks i) (key_in ks e) (key_in ks i) here there in
              let same = key_itself (key_in ks i) (key_in ks i) refl in
              absurd cc)
        ]
      ]

  module _ (s : State) (ks : List Key) (rs : List RecordValue) (up : Ascend ks) (order : IsInOrder s) (of : AreDoneRecords s ks rs) where
    key_here : (i : ℕ) (d : RecordValue) → i < length rs → key_in ks i ≡ (get_or rs i d).key
    key_here i d lt = ap (λ (xs : List Key). key_in xs i) (sym of.keys) ∙ get_or-map (λ (x : RecordValue). x.key) rs i d Files lt

    as_long : length ks ≡ length rs
    as_long = ap length (sym of.keys) ∙ length-map rs (λ (r : RecordValue). r.key)

    is_of : (i : ℕ) (d : RecordValue) → i < length rs → IsDoneRecord s ks (get_or rs i d)
    is_of i d lt = All-from_recursion (IsDoneRecord s ks) rs of.each i d lt

    done_so : (i : ℕ) (d : RecordValue) → i < length rs → IsDoneInOrder s (get_or rs i d).key (get_or rs i d).value (map (key_in ks) (get_or rs i d).edges) (get_or rs i d).mark
    done_so i d lt = in_order s (get_or rs i d).key (s.at (get_or rs i d).key) (get_or rs i d).value (map (key_in ks) (get_or rs i d).edges) (get_or rs i d).mark (is_of i d lt).done (order (get_or rs i d).key)

    above_front : (i : ℕ) (d : RecordValue) → i < length rs → IsAbove (take i rs) (get_or rs i d).key
    above_front i d lt = all_where (λ (r : RecordValue). key_cmp r.key (get_or rs i d).key ≡ Less) (take i rs) (λ x has.
        let at = front_place rs i (omega arith) x has in
        let lj : at.0 < length rs = let b = at.1 in omega arith in
        let here : key_in ks at.0 ≡ x.key = key_here at.0 x lj ∙ ap (λ (r : RecordValue). r.key) at.2 in
        let there = key_here i d lt in
        let l : i < length ks = omega (arith, lt, as_long) in
        subst (λ (k : Key). key_cmp x.key k ≡ Less) there (subst (λ (k : Key). key_cmp k (key_in ks i) ≡ Less) here (before_place ks at.0 i Files up at.1 l)))

    front_key : (i e : ℕ) (d : RecordValue) → e < i → e < length rs → e < length (take i rs) → key_at (take i rs) e ≡ key_in ks e
    front_key i e d below le lef =
        get_or-map (λ (x : RecordValue). x.key) (take i rs) e d Files lef
        ∙ (ap (λ (x : RecordValue). x.key) (get_take rs i e d below) ∙ sym (key_here e d le))

    edge_front : (i : ℕ) (d : RecordValue) (q : Key) → i < length rs → key_in ks i ≡ q → (es : List ℕ) → AllByRecursion (λ e. e < length ks) es → AreLower q (map (key_in ks) es) → AllByRecursion (IsEdge (take i rs) q) es
    edge_front i d q lt here [] inside lower = tt
    edge_front i d q lt here (e ∷ es) inside lower =
        let li : i < length ks = omega (arith, lt, as_long) in
        let low : rank (key_in ks e) < rank (key_in ks i) = subst (λ (k : Key). rank (key_in ks e) < rank k) (sym here) lower.0 in
        let le : e < i = in_front ks i e up li inside.0 low in
        let ler : e < length rs = omega (arith, le, lt) in
        let long : length (take i rs) ≡ i = length-take-le i rs (omega arith) in
        let lef : e < length (take i rs) = omega (arith, le, long) in
        ((lef, subst (λ (k : Key). rank k < rank q) (sym (front_key i e d le ler lef)) lower.0), edge_front i d q lt here es inside.1 lower.1)

    pub are_records : AreRecords rs
    are_records i d lt = record {
      above = above_front i d lt;
      marked = (done_so i d lt).marked;
      edges = edge_front i d (get_or rs i d).key lt (key_here i d lt) (get_or rs i d).edges (is_of i d lt).inside (done_so i d lt).lower;
      once = distinct (key_in ks) (get_or rs i d).edges (done_so i d lt).once;
      kind = (done_so i d lt).kind;
      kept = (is_of i d lt).kept;
    }

-- ---- lists with one more item

map_last : {X : Type 0} (f : X → Key) (xs : List X) (ks : List Key) (i : ℕ) (k : Key) (x : X) → i < length ks → k ≡ get_or ks i k → map f xs ≡ take i ks → f x ≡ k → map f (xs ++ x ∷ []) ≡ take (i + 1) ks
map_last f xs ks i k x lt is so_far here =
    map-append f xs (x ∷ [])
    ∙ (ap (λ (ys : List Key). ys ++ f x ∷ []) so_far
    ∙ (ap (λ (y : Key). take i ks ++ y ∷ []) (here ∙ is) ∙ sym (take_more ks i k lt)))

pub places_more : (ks es : List Key) (is : List ℕ) (i : ℕ) (e : Key) (at : ℕ) → i < length es → e ≡ get_or es i e → map (key_in ks) is ≡ take i es → key_in ks at ≡ e → map (key_in ks) (is ++ at ∷ []) ≡ take (i + 1) es
places_more ks es is i e at lt eq so_far here = map_last (key_in ks) is es i e at lt eq so_far here

pub inside_more : (n : ℕ) (is : List ℕ) (at : ℕ) → AllByRecursion (λ e. e < n) is → at < n → AllByRecursion (λ e. e < n) (is ++ at ∷ [])
inside_more n is at h lt = all_push (λ e. e < n) is at h lt

pub keys_more : (ks : List Key) (rs : List RecordValue) (i : ℕ) (k : Key) (r : RecordValue) → i < length ks → k ≡ get_or ks i k → map (λ r. r.key) rs ≡ take i ks → r.key ≡ k → map (λ r. r.key) (rs ++ r ∷ []) ≡ take (i + 1) ks
keys_more ks rs i k r lt eq so_far here = map_last (λ (x : RecordValue). x.key) rs ks i k r lt eq so_far here

pub each_more : (s : State) (ks : List Key) (rs : List RecordValue) (r : RecordValue) → AllByRecursion (IsDoneRecord s ks) rs → IsDoneRecord s ks r → AllByRecursion (IsDoneRecord s ks) (rs ++ r ∷ [])
each_more s ks rs r h one = all_push (IsDoneRecord s ks) rs r h one

-- ---- what the records say

told_all : (rs xs : List RecordValue) (B : Key → Key → Type 0) (k : Key) → AllByRecursion (B k) (map (λ r. r.key) xs) → AllByRecursion (λ (e : Entry). B k e.key) (map (entry_of rs) xs)
told_all rs [] B k h = tt
told_all rs (x ∷ xs) B k h = (h.0, told_all rs xs B k h.1)

told_ascend : (rs xs : List RecordValue) → IsAscendingBy KeyBefore (map (λ r. r.key) xs) → AreAscendingByKey (map (entry_of rs) xs)
told_ascend rs [] h = tt
told_ascend rs (x ∷ xs) h = (told_all rs xs KeyBefore x.key h.0, told_ascend rs xs h.1)

-- an entry is that of a record
entry_from : (rs xs : List RecordValue) (r : Entry) → Contains (map (entry_of rs) xs) r → (x : RecordValue) × Contains xs x × (entry_of rs x ≡ r)
entry_from rs [] r h = absurd (let b = h.1 in omega arith)
entry_from rs (x ∷ xs) r (zero, lt, is) = let l : 0 < length (x ∷ xs) = omega arith in (x, (0, l, refl), is)
entry_from rs (x ∷ xs) r (suc k, lt, is) =
    let h = entry_from rs xs r (k, (omega arith), is) in
    let l : suc h.1.0 < length (x ∷ xs) = let b = h.1.1 in omega arith in
    (h.0, (suc h.1.0, l, h.1.2), h.2)

-- a record of each key
record_from : (rs xs : List RecordValue) (q : Key) → Contains (map (λ r. r.key) xs) q → (r : Entry) × Contains (map (entry_of rs) xs) r × (r.key ≡ q)
record_from rs [] q h = absurd (let b = h.1 in omega arith)
record_from rs (x ∷ xs) q (zero, lt, is) = let l : 0 < length (map (entry_of rs) (x ∷ xs)) = omega arith in (entry_of rs x, (0, l, refl), is)
record_from rs (x ∷ xs) q (suc k, lt, is) =
    let h = record_from rs xs q (k, (omega arith), is) in
    let l : suc h.1.0 < length (map (entry_of rs) (x ∷ xs)) = let b = h.1.1 in omega arith in
    (h.0, (suc h.1.0, l, h.1.2), h.2)

has_key : (xs : List RecordValue) (x : RecordValue) → Contains xs x → Contains (map (λ r. r.key) xs) x.key
has_key [] x h = absurd (let b = h.1 in omega arith)
has_key (y ∷ xs) x (zero, lt, is) = let l : 0 < length (map (λ (r : RecordValue). r.key) (y ∷ xs)) = omega arith in (0, l, ap (λ (r : RecordValue). r.key) is)
has_key (y ∷ xs) x (suc k, lt, is) = let h = has_key xs x (k, (omega arith), is) in let l : suc h.0 < length (map (λ (r : RecordValue). r.key) (y ∷ xs)) = let b = h.1 in omega arith in (suc h.0, l, h.2)

-- the records of just the keys that are reached, in order, are what the state closes with
pub are_closed : (p : Project) (s : State) (ks : List Key) (rs : List RecordValue) → AreReached p s ks → Ascend ks → AreDoneRecords s ks rs → AreClosed p s (map (entry_of rs) rs)
are_closed p s ks rs reached up of = record {
  ascending = told_ascend rs rs (subst Ascend (sym of.keys) up);
  each = λ r has.
      let at = entry_from rs rs r has in
      let x = at.0 in
      let is_of = All-contains (IsDoneRecord s ks) rs x (All-from_recursion (IsDoneRecord s ks) rs of.each) at.1 in
      let key : Contains ks x.key = subst (λ (xs : List Key). Contains xs x.key) of.keys (has_key rs x at.1) in
      let told : s.at x.key ≡ Done x.value (map (key_at rs) x.edges) x.mark = subst (λ (xs : List Key). s.at x.key ≡ Done x.value (map (key_in xs) x.edges) x.mark) (sym of.keys) is_of.done in
      subst (λ (e : Entry). IsReached p s e.key × IsEntryOf s e) at.2 ((reached x.key).0 key, told);
  all = λ q r. record_from rs rs q (subst (λ (xs : List Key). Contains xs q) (sym of.keys) ((reached q).1 r));
}
