-- What a graph keeps if it has one more place.
use Rattle.std.proofs.Common.{◌≡◌, ◌≢◌, inl, inr, ℕ, zero, suc, ◌+◌, ◌<◌, Bool, true, false, not, List, [], ◌∷◌, ◌++◌, length, Contains, Vec, Option, Some, None, is_some, refl, sym, ap, ◌∙◌, subst, arith}
use Rattle.std.specs.Prelude.{if◌then◌else◌, ◌||◌, IfSome, IfNone}
use Rattle.std.specs.List.{AllByRecursion, list_any, position}
use Rattle.std.specs.Arc.{arc_value}
use Rattle.std.specs.Ordering.{eq_by_cmp}
use Rattle.std.specs.declared.alloc.Global.{Global}
use Rattle.std.specs.declared.sync.Arc.{Arc}
use Rattle.std.proofs.lemmas.Bool.{cases_eq}
use Rattle.std.proofs.lemmas.List.{get_or_append_left, get_or_push, length_push}
use Rattle.indexmap.specs.IndexSet.{insert_key}
use Rattle.item_ids.specs.declared.key.Key.{Key}
use Rattle.item_ids.specs.declared.key.Key.TheVariants.{Files}
use Rattle.item_ids.specs.Keys.{key_cmp}
use Rattle.item_ids.specs.Inputs.{rank}
use Rattle.item_ids.proofs.Apart.{test_itself, test_same}
use Rattle.std.proofs.lemmas.List.Quantifiers.{position-Some}
use Rattle.item_ids.proofs.Lists.{all_from}
use Rattle.result_bytes.specs.declared.value.Value.{Value}
use Rattle.recorder.specs.Projects.{Project}
use Rattle.recorder.specs.Backed.{ReadValue}
use Rattle.recorder.specs.Programs.{Prog}
use Rattle.recorder.proofs.Recorded.{all_at}
use Rattle.keeping.specs.Follows.{Follows}
use Rattle.keeping.specs.Readers.{told_at}
use Rattle.resident_graph.specs.Places.{Places, IsEdge, IsSettled, IsNode}
use Rattle.resident_graph.specs.Lists.{key_in, value_in, list_in, flag_in, Widens, IsQueue}
use Rattle.resident_graph.specs.Runs.{IsValueOf}
use Rattle.resident_graph.specs.Graphs.{places_in, Keeps}
use Rattle.resident_graph.proofs.Changes.{Changes, holds_changed}
use Rattle.resident_graph.proofs.Results.{lower_places, told_found}

-- ---- a key that is inserted anew

both_false : (a b : Bool) → (a || b) ≡ false → (a ≡ false) × (b ≡ false)
both_false true b e = absurd cc
both_false false b e = (refl, e)

pub absent : (ks : List Key) (k : Key) → list_any (eq_by_cmp key_cmp k) ks ≡ false → (i : ℕ) → i < length ks → key_in ks i ≢ k
absent [] k e i lt same = absurd (omega arith)
absent (x ∷ xs) k e zero lt same =
    let test : eq_by_cmp key_cmp k x ≡ true = test_itself k x (sym same) in
    let bad : true ≡ false = sym test ∙ (both_false (eq_by_cmp key_cmp k x) (list_any (eq_by_cmp key_cmp k) xs) e).0 in cc
absent (x ∷ xs) k e (suc i) lt same = absent xs k (both_false (eq_by_cmp key_cmp k x) (list_any (eq_by_cmp key_cmp k) xs) e).1 i (omega (arith, lt)) same

pub new_key : (ks : List Key) (k : Key) (b : Bool) (new : List Key) → b ≡ not (list_any (eq_by_cmp key_cmp k) ks) → b ≡ true → new ≡ insert_key (eq_by_cmp key_cmp) ks k
    → ((i : ℕ) → i < length ks → key_in ks i ≢ k) × (new ≡ ks ++ k ∷ [])
new_key ks k b new is on inserted = go (list_any (eq_by_cmp key_cmp k) ks) refl
  where
    go : (c : Bool) → list_any (eq_by_cmp key_cmp k) ks ≡ c → ((i : ℕ) → i < length ks → key_in ks i ≢ k) × (new ≡ ks ++ k ∷ [])
    go true e = absurd (let bad : true ≡ false = sym on ∙ (is ∙ ap not e) in cc)
    go false e = (absent ks k e, inserted ∙ ap (λ (c : Bool). if c then ks else ks ++ k ∷ []) e)

-- what a look-up says of a key
pub found_at : (ks : List Key) (k : Key) (o : Option ℕ) → o ≡ position (eq_by_cmp key_cmp k) ks → IfSome o (λ at. key_in ks at ≡ k)
found_at ks k None is = tt
found_at ks k (Some i) is =
    let h = position-Some (eq_by_cmp key_cmp k) ks i Files (sym is) in sym (test_same k (key_in ks i) h.1)

pub none_there : (ks : List Key) (k : Key) (o : Option ℕ) → is_some o ≡ list_any (eq_by_cmp key_cmp k) ks → IfNone o ((i : ℕ) → i < length ks → key_in ks i ≢ k)
none_there ks k None is = absent ks k (sym is)
none_there ks k (Some i) is = tt

-- ---- one more item

value_front : (vs : List (Arc Value Global)) (a : Arc Value Global) (i : ℕ) → i < length vs → value_in (vs ++ a ∷ []) i ≡ value_in vs i
value_front [] a i lt = absurd (omega arith)
value_front (v ∷ vs) a zero lt = refl
value_front (v ∷ vs) a (suc i) lt = value_front vs a i (omega (arith, lt))

value_last : (vs : List (Arc Value Global)) (a : Arc Value Global) (n : ℕ) → length vs ≡ n → value_in (vs ++ a ∷ []) n ≡ arc_value a
value_last [] a zero e = refl
value_last [] a (suc n) e = absurd (omega arith)
value_last (v ∷ vs) a zero e = absurd (omega arith)
value_last (v ∷ vs) a (suc n) e = value_last vs a n (omega (arith, e))

list_front : (es : List (Vec ℕ Global)) (e : Vec ℕ Global) (i : ℕ) → i < length es → list_in (es ++ e ∷ []) i ≡ list_in es i
list_front [] e i lt = absurd (omega arith)
list_front (x ∷ es) e zero lt = refl
list_front (x ∷ es) e (suc i) lt = list_front es e i (omega (arith, lt))

list_last : (es : List (Vec ℕ Global)) (e : Vec ℕ Global) (n : ℕ) → length es ≡ n → list_in (es ++ e ∷ []) n ≡ e.items
list_last [] e zero h = refl
list_last [] e (suc n) h = absurd (omega arith)
list_last (x ∷ es) e zero h = absurd (omega arith)
list_last (x ∷ es) e (suc n) h = list_last es e n (omega (arith, h))

flag_pushed : (qs : List Bool) (i : ℕ) → flag_in (qs ++ false ∷ []) i ≡ flag_in qs i
flag_pushed [] zero = refl
flag_pushed [] (suc i) = refl
flag_pushed (q ∷ qs) zero = refl
flag_pushed (q ∷ qs) (suc i) = flag_pushed qs i

pub flag_within : (qs : List Bool) (i : ℕ) → flag_in qs i ≡ true → i < length qs
flag_within [] zero on = absurd cc
flag_within [] (suc i) on = absurd cc
flag_within (q ∷ qs) zero on = omega arith
flag_within (q ∷ qs) (suc i) on = let l = flag_within qs i on in omega arith

key_front : (ks : List Key) (k : Key) (i : ℕ) → i < length ks → key_in (ks ++ k ∷ []) i ≡ key_in ks i
key_front ks k i lt = get_or_append_left ks (k ∷ []) Files i lt

key_last : (ks : List Key) (k : Key) → key_in (ks ++ k ∷ []) (length ks) ≡ k
key_last ks k = get_or_push ks k Files (length ks) refl

-- A place for a new key, which each of its edges has among its readers from now on.
module _ (prog_of : Key → Prog) (p : Project) (ks : List Key) (vs : List (Arc Value Global)) (es rs : List (Vec ℕ Global)) (qs : List Bool) (line : List (Vec ℕ Global))
    (keeps : Keeps prog_of p ks vs es rs qs line)
    (k : Key) (a : Arc Value Global) (e readers : Vec ℕ Global) (ss : List (Vec ℕ Global))
    (new : (i : ℕ) → i < length ks → key_in ks i ≢ k)
    (value : IsValueOf prog_of p ks vs k (arc_value a) e.items)
    (same_readers : length ss ≡ length rs) (wider : Widens rs ss)
    (linked : (x : ℕ) → Contains e.items x → x < length rs → Contains (list_in ss x) (length ks)) where
  abbrev now : Places
  now = places_in (ks ++ k ∷ []) (vs ++ a ∷ []) (es ++ e ∷ []) (ss ++ readers ∷ []) (qs ++ false ∷ [])

  below : (i : ℕ) → i < length (ks ++ k ∷ []) → i ≢ length ks → i < length ks
  below i lt ne = let l = length_push ks k in let other = ne in omega arith

  in_values : (i : ℕ) → i < length ks → i < length vs
  in_values i lt = let l = keeps.aligned.values in omega arith

  in_readers : (i : ℕ) → i < length ks → i < length ss
  in_readers i lt = let l = keeps.aligned.readers in omega (arith, lt, same_readers)

  value_stays : (i : ℕ) → i < length ks → value_in (vs ++ a ∷ []) i ≡ value_in vs i
  value_stays i lt = value_front vs a i (in_values i lt)

  ch : Changes prog_of (places_in ks vs es rs qs) now (length ks)
  ch = record {
    within = below;
    grown = λ i lt. let l = length_push ks k in omega arith;
    key = λ i lt. key_front ks k i lt;
    value = λ i lt ne. value_stays i lt;
    edges = λ i lt ne. list_front es e i (let l = keeps.aligned.edges in omega arith);
    readers = λ j i lj ne has. subst (λ (xs : List ℕ). Contains xs i) (sym (list_front ss readers j (in_readers j lj))) (wider j i has);
    queued = λ i lt ne off. sym (flag_pushed qs i) ∙ off;
    reading = λ i li bad ne off has. absurd (omega (arith, bad));
  }

  apart_now : (i j : ℕ) → i < length (ks ++ k ∷ []) → j < length (ks ++ k ∷ []) → key_in (ks ++ k ∷ []) i ≡ key_in (ks ++ k ∷ []) j → i ≡ j
  apart_now i j li lj same = elim (cases_eq i (length ks)) [
    | inl i_last ↦ elim (cases_eq j (length ks)) [
      | inl j_last ↦ i_last ∙ sym j_last
      | inr j_front ↦ (
          let lt = below j lj j_front in
          let i_is : key_in (ks ++ k ∷ []) i ≡ k = subst (λ (x : ℕ). key_in (ks ++ k ∷ []) x ≡ k) (sym i_last) (key_last ks k) in
          absurd (new j lt (sym (key_front ks k j lt) ∙ (sym same ∙ i_is)))
          )
    ]
    | inr i_front ↦ elim (cases_eq j (length ks)) [
      | inl j_last ↦ (
          let lt = below i li i_front in
          let j_is : key_in (ks ++ k ∷ []) j ≡ k = subst (λ (x : ℕ). key_in (ks ++ k ∷ []) x ≡ k) (sym j_last) (key_last ks k) in
          absurd (new i lt (sym (key_front ks k i lt) ∙ (same ∙ j_is)))
          )
      | inr j_front ↦ (
          let lt = below i li i_front in
          let lu = below j lj j_front in
          keeps.holds.apart i j lt lu (sym (key_front ks k i lt) ∙ (same ∙ key_front ks k j lu))
          )
    ]
  ]

  told_keys : (xs : List ℕ) → AllByRecursion (λ x. x < length ks) xs → told_at (key_in (ks ++ k ∷ [])) (value_in (vs ++ a ∷ [])) xs ≡ told_at (key_in ks) (value_in (vs ++ a ∷ [])) xs
  told_keys [] all = refl
  told_keys (x ∷ xs) all =
      let one = key_front ks k x all.0 in
      let rest = told_keys xs all.1 in
      λ i. record { key = one i; value = value_in (vs ++ a ∷ []) x } ∷ rest i

  within : (x : ℕ) → Contains e.items x → x < length ks
  within x has = all_at (λ y. y < length ks) e.items x has value.inside

  is_edges : list_in (es ++ e ∷ []) (length ks) ≡ e.items
  is_edges = list_last es e (length ks) keeps.aligned.edges

  is_value : value_in (vs ++ a ∷ []) (length ks) ≡ arc_value a
  is_value = value_last vs a (length ks) keeps.aligned.values

  module _ (above : 0 < rank k) where
    low : AllByRecursion (λ x. rank (key_in ks x) < rank k) e.items
    low = lower_places ks k e.items (value.run above).told (value.run above).same (value.run above).lower

    told_is : told_at (key_in ks) (value_in (vs ++ a ∷ [])) e.items ≡ (value.run above).told
    told_is = told_found ks vs (value_in (vs ++ a ∷ [])) k keeps.holds.apart (λ x inside l. value_stays x inside) e.items (value.run above).told (value.run above).same value.inside low (value.run above).answers

    edge : (x : ℕ) → Contains e.items x → IsEdge now (length ks) x
    edge x has = record {
      inside = let l = length_push ks k in let w = within x has in omega arith;
      lower = rw (key_front ks k x (within x has), key_last ks k) (all_at (λ y. rank (key_in ks y) < rank k) e.items x has low);
    }

    settled : IsSettled prog_of now (length ks)
    settled = record {
      follows =
          subst (λ (q : Key). Follows (prog_of q) (told_at (key_in (ks ++ k ∷ [])) (value_in (vs ++ a ∷ [])) (list_in (es ++ e ∷ []) (length ks))) (value_in (vs ++ a ∷ []) (length ks))) (sym (key_last ks k))
          (subst (λ (v : Value). Follows (prog_of k) (told_at (key_in (ks ++ k ∷ [])) (value_in (vs ++ a ∷ [])) (list_in (es ++ e ∷ []) (length ks))) v) (sym is_value)
          (subst (λ (xs : List ℕ). Follows (prog_of k) (told_at (key_in (ks ++ k ∷ [])) (value_in (vs ++ a ∷ [])) xs) (arc_value a)) (sym is_edges)
          (subst (λ (told : List ReadValue). Follows (prog_of k) told (arc_value a)) (sym (told_keys e.items value.inside ∙ told_is)) (value.run above).follows)));
      edges = subst (AllByRecursion (IsEdge now (length ks))) (sym is_edges) (all_from (IsEdge now (length ks)) e.items edge);
    }

  linked_now : (x : ℕ) → Contains e.items x → (x < length (ks ++ k ∷ [])) × Contains (list_in (ss ++ readers ∷ []) x) (length ks)
  linked_now x has =
      let w = within x has in (
        (let l = length_push ks k in omega (arith, w)),
        subst (λ (xs : List ℕ). Contains xs (length ks)) (sym (list_front ss readers x (in_readers x w))) (linked x has (let l = keeps.aligned.readers in omega (arith, w))),
      )

  here : IsNode prog_of p now (length ks)
  here = record {
    kind = rw (key_last ks k, is_value) value.kind;
    linked = λ x has. linked_now x (subst (λ (xs : List ℕ). Contains xs x) is_edges has);
    input = rw (key_last ks k, is_value) (λ low off. value.input low);
    settled = λ above off. settled (subst (λ (q : Key). 0 < rank q) (key_last ks k) above);
  }

  queue_stays : IsQueue (ks ++ k ∷ []) (qs ++ false ∷ []) line
  queue_stays i on =
      let was : flag_in qs i ≡ true = sym (flag_pushed qs i) ∙ on in
      subst (λ (q : Key). Contains (list_in line (rank q)) i) (sym (key_front ks k i (let l = keeps.aligned.queued in let f = flag_within qs i was in omega arith))) (keeps.queue i was)

  pub added : Keeps prog_of p (ks ++ k ∷ []) (vs ++ a ∷ []) (es ++ e ∷ []) (ss ++ readers ∷ []) (qs ++ false ∷ []) line
  added = record {
    aligned = record {
      values = length_push vs a ∙ (ap (λ n. n + 1) keeps.aligned.values ∙ sym (length_push ks k));
      edges = length_push es e ∙ (ap (λ n. n + 1) keeps.aligned.edges ∙ sym (length_push ks k));
      readers = length_push ss readers ∙ (ap (λ n. n + 1) (same_readers ∙ keeps.aligned.readers) ∙ sym (length_push ks k));
      queued = length_push qs false ∙ (ap (λ n. n + 1) keeps.aligned.queued ∙ sym (length_push ks k));
    };
    queue = queue_stays;
    holds = holds_changed prog_of p _ now (length ks) ch keeps.holds apart_now (λ _. here);
  }
