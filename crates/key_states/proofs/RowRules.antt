-- Rows in the order of their keys, and the ranks of their places.
use Rattle.std.proofs.Common.{◌≡◌, inl, inr, ℕ, ◌+◌, ◌<◌, ◌≤◌, false, List, [], ◌∷◌, ◌++◌, map, take, length, get_or, set, refl, sym, ap, ◌∙◌, subst, eq-or-lt_of_le, arith}
use Rattle.std.specs.Prelude.{IsSorted}
use Rattle.std.specs.List.{AllByRecursion, IsDistinct}
use Rattle.std.specs.List.Sorted.{IsPermutation}
use Rattle.std.specs.Ordering.{eq_by_cmp, is_lt, ordering_then}
use Rattle.std.specs.declared.cmp.Ordering.{Ordering}
use Rattle.std.specs.declared.cmp.Ordering.TheVariants.{Less, Equal, Greater}
use Rattle.std.specs.Arc.{arc_value}
use Rattle.std.proofs.Math.Seq.{take-append_seam}
use Rattle.std.proofs.lemmas.Bool.{cases_lt}
use Rattle.std.proofs.lemmas.List.{get_or-map, get_or_default, get_or-set_same, get_or-set_other, length-map, map-append, take_more}
use Rattle.std.proofs.lemmas.List.Elements.{Contains-get_or}
use Rattle.std.proofs.lemmas.List.Sorted.{Contains-permutation, IsPermutation-sym, IsPermutation-map}
use Rattle.std.proofs.lemmas.Map.Keys.{IsDistinct-IsPermutation}
use Rattle.item_ids.specs.declared.key.Key.{Key}
use Rattle.item_ids.specs.declared.key.Key.TheVariants.{Files}
use Rattle.item_ids.specs.Keys.{key_cmp}
use Rattle.sessions.specs.Sessions.{RecordValue, IsRecord}
use Rattle.graph_rules.specs.Steps.{State}
use Rattle.key_states.specs.declared.reaching.Found.{Found}
use Rattle.key_states.specs.declared.rows.KeyRow.{KeyRow}
use Rattle.key_states.specs.contracts.rows.KeyRowOrd.TheImpl.{cmp-value}
use Rattle.key_states.specs.Reached.{EachAt, IsFoundAs, IsDoneRecord, key_in}
use Rattle.key_states.specs.Rows.{keys_of, IsRowOf, IsOfPlace, AreOrdered, AreRanks, AreWithin, AreRowsOf, rank_in}
use Rattle.key_states.proofs.FoundRules.{inside_all}
use Rattle.key_states.proofs.SetRules.{sorted_ascend}

-- a row for places where there is none
no_row : KeyRow
no_row = record { key = Files; at = 0 }

key_here : (rows : List KeyRow) (i : ℕ) (d : KeyRow) → i < length rows → key_in (keys_of rows) i ≡ (get_or rows i d).key
key_here rows i d lt = get_or-map (λ (r : KeyRow). r.key) rows i d Files lt

as_many : (rows : List KeyRow) → length (keys_of rows) ≡ length rows
as_many rows = length-map rows (λ (r : KeyRow). r.key)

-- ---- in order

-- what a vector has whose slice was written to
pub slice_back : {A : Type 0} (n : ℕ) (xs zs : List A) → length xs ≡ n → take n (xs ++ zs) ≡ xs
slice_back n xs zs is = subst (λ (k : ℕ). take k (xs ++ zs) ≡ xs) is (take-append_seam xs zs)

first_decides : (o p : Ordering) → is_lt (ordering_then o p) ≡ false → is_lt o ≡ false
first_decides Less p e = e
first_decides Equal p e = refl
first_decides Greater p e = refl

pub rows_sorted : (rows : List KeyRow) → IsSorted cmp-value.it rows → IsSorted key_cmp (keys_of rows)
rows_sorted rows sorted k d low high =
    let lt : k + 1 < length rows = omega (arith, high, as_many rows) in
    let l : k < length rows = omega (arith, lt) in
    let next = get_or-map (λ (r : KeyRow). r.key) rows (k + 1) no_row d lt in
    let this = get_or-map (λ (r : KeyRow). r.key) rows k no_row d l in
    rw (next, this) (first_decides _ _ (sorted k no_row low lt))

module _ (ks : List Key) (found rows : List KeyRow) (keys : keys_of found ≡ ks) (places : EachAt (λ i r. r.at ≡ i) found) (moved : IsPermutation found rows) where
  long : length found ≡ length ks
  long = sym (as_many found) ∙ ap length keys

  row_is : (k : ℕ) (r : KeyRow) → k < length found → get_or found k r ≡ r → IsRowOf ks r
  row_is k r lt is =
      let at : r.at ≡ k = ap (λ (x : KeyRow). x.at) (sym is) ∙ places k r lt in
      let key : r.key ≡ key_in ks k = ap (λ (x : KeyRow). x.key) (sym is) ∙ (sym (key_here found k r lt) ∙ ap (λ (xs : List Key). key_in xs k) keys) in
      let within : r.at < length ks = omega (arith, at, lt, long) in
      (within, key ∙ ap (key_in ks) (sym at))

  each_row : EachAt (λ i r. IsRowOf ks r) rows
  each_row i d lt =
      let there = Contains-permutation rows found (get_or rows i d) (IsPermutation-sym found rows moved) (Contains-get_or rows i d lt) in
      row_is there.0 (get_or rows i d) there.1 there.2

  all_places : (place : ℕ) → place < length ks → (i : ℕ) × IsOfPlace rows i place
  all_places place lt =
      let l : place < length found = omega (arith, lt, long) in
      let x = get_or found place no_row in
      let there = Contains-permutation found rows x moved (Contains-get_or found place no_row l) in
      (there.0, (there.1, λ d. ap (λ (r : KeyRow). r.at) (get_or_default rows there.0 d x there.1 ∙ there.2) ∙ places place no_row l))

  same_keys : IsPermutation ks (keys_of rows)
  same_keys = subst (λ (xs : List Key). IsPermutation xs (keys_of rows)) keys (IsPermutation-map (λ (r : KeyRow). r.key) found rows moved)

  pub ordered : ((a b : Key) → eq_by_cmp key_cmp a b ≡ eq_by_cmp key_cmp b a) → length rows ≡ length found → IsDistinct (eq_by_cmp key_cmp) (keys_of found) → IsSorted key_cmp (keys_of rows) → AreOrdered ks rows
  ordered flips count apart sorted = record {
    each = each_row;
    all = all_places;
    count = count ∙ long;
    same = λ q. (Contains-permutation (keys_of rows) ks q (IsPermutation-sym ks (keys_of rows) same_keys), Contains-permutation ks (keys_of rows) q same_keys);
    ascend = sorted_ascend (keys_of rows) sorted (IsDistinct-IsPermutation (eq_by_cmp key_cmp) flips ks (keys_of rows) same_keys (subst (IsDistinct (eq_by_cmp key_cmp)) keys apart));
  }

-- ---- ranks

-- the rank of the place of each of the first rows is the index of the row of this place
pub record AreFirstRanks (rows : List KeyRow) (ranks : List ℕ) (n : ℕ) : Type 0 where
  pub count : length ranks ≡ length rows
  pub each : (i : ℕ) (d : KeyRow) → i < length rows → i < n → IsOfPlace rows (rank_in ranks (get_or rows i d).at) (get_or rows i d).at

module _ (rows : List KeyRow) (ranks : List ℕ) (n : ℕ) (row : KeyRow) (lt : n < length rows) (is : row ≡ get_or rows n row) (so : AreFirstRanks rows ranks n) (within : row.at < length ranks) where
  here : IsOfPlace rows n row.at
  here = (lt, λ d. ap (λ (r : KeyRow). r.at) (get_or_default rows n d row lt ∙ sym is))

  noted : (place : ℕ) → row.at ≡ place → IsOfPlace rows (rank_in (set ranks row.at n) place) place
  noted place same =
      subst (λ (p : ℕ). IsOfPlace rows (rank_in (set ranks row.at n) p) p) same
      (subst (λ (k : ℕ). IsOfPlace rows k row.at) (sym (get_or-set_same ranks row.at n 0 within)) here)

  left : (place : ℕ) → (place ≡ row.at → ⊥) → IsOfPlace rows (rank_in ranks place) place → IsOfPlace rows (rank_in (set ranks row.at n) place) place
  left place other h = subst (λ (k : ℕ). IsOfPlace rows k place) (sym (get_or-set_other ranks row.at place n 0 other)) h

  ranked : (i : ℕ) (d : KeyRow) → i < length rows → i < n + 1 → IsOfPlace rows (rank_in (set ranks row.at n) (get_or rows i d).at) (get_or rows i d).at
  ranked i d l below =
      elim (eq-or-lt_of_le (let le : i ≤ n = omega (arith, below) in le)) [
        | inl e ↦ noted (get_or rows i d).at (ap (λ (r : KeyRow). r.at) (is ∙ (get_or_default rows n row d lt ∙ ap (λ (k : ℕ). get_or rows k d) (sym e))))
        | inr front ↦ (elim (cases_lt (get_or rows i d).at row.at) [
          | inl less ↦ left (get_or rows i d).at (λ e. absurd (omega (arith, less, e))) (so.each i d l front)
          | inr more ↦ (elim (eq-or-lt_of_le more) [
            | inl e ↦ noted (get_or rows i d).at e
            | inr greater ↦ left (get_or rows i d).at (λ e. absurd (omega (arith, greater, e))) (so.each i d l front)
          ])
        ])
      ]

-- ---- records by rows

-- one more record
pub rows_more : (rows : List KeyRow) (rs : List RecordValue) (i : ℕ) (row : KeyRow) (r : RecordValue) → i < length rows → row ≡ get_or rows i row → map (λ r. r.key) rs ≡ keys_of (take i rows) → r.key ≡ row.key → map (λ r. r.key) (rs ++ r ∷ []) ≡ keys_of (take (i + 1) rows)
rows_more rows rs i row r lt is so_far key =
    map-append (λ (x : RecordValue). x.key) rs (r ∷ [])
    ∙ (ap (λ (ys : List Key). ys ++ r.key ∷ []) so_far
    ∙ (ap (λ (k : Key). keys_of (take i rows) ++ k ∷ []) (key ∙ ap (λ (x : KeyRow). x.key) is)
    ∙ (sym (map-append (λ (x : KeyRow). x.key) (take i rows) (get_or rows i row ∷ [])) ∙ ap keys_of (sym (take_more rows i row lt)))))

module _ (s : State) (rows : List KeyRow) (fs : List Found) (of : AreRowsOf s rows fs) where
  pub within : AreWithin rows fs
  within = record {
    places = λ i d lt. let l = (of.ordered.each i d lt).0 in omega (arith, l, of.count);
    edges = λ i d lt. inside_all (length of.keys) (length rows) (omega (arith, of.ordered.count)) (get_or fs i d).edges.items (of.found i d lt).inside;
    count = of.count ∙ sym of.ordered.count;
  }

  module _ (ranks : List ℕ) (are : AreRanks rows ranks) where
    at_rank : (place : ℕ) → place < length of.keys → IsOfPlace rows (rank_in ranks place) place
    at_rank place lt =
        let there = of.ordered.all place lt in
        subst (λ (p : ℕ). IsOfPlace rows (rank_in ranks p) p) (there.1.1 no_row) (are.each there.0 no_row there.1.0)

    key_ranked : (place : ℕ) → place < length of.keys → key_in (keys_of rows) (rank_in ranks place) ≡ key_in of.keys place
    key_ranked place lt =
        let there = at_rank place lt in
        key_here rows (rank_in ranks place) no_row there.0 ∙ ((of.ordered.each (rank_in ranks place) no_row there.0).1 ∙ ap (key_in of.keys) (there.1 no_row))

    keys_ranked : (es : List ℕ) → AllByRecursion (λ e. e < length of.keys) es → map (key_in (keys_of rows)) (map (rank_in ranks) es) ≡ map (key_in of.keys) es
    keys_ranked [] h = refl
    keys_ranked (e ∷ es) h = rw (key_ranked e h.0, keys_ranked es h.1) refl

    ranks_inside : (es : List ℕ) → AllByRecursion (λ e. e < length of.keys) es → AllByRecursion (λ e. e < length (keys_of rows)) (map (rank_in ranks) es)
    ranks_inside [] h = tt
    ranks_inside (e ∷ es) h = ((let l = (at_rank e h.0).0 in omega (arith, l, as_many rows)), ranks_inside es h.1)

    module _ (i : ℕ) (row : KeyRow) (lt : i < length rows) (is : row ≡ get_or rows i row) (f : Found) (f_is : f ≡ get_or fs row.at f) where
      row_here : IsRowOf of.keys row
      row_here = subst (IsRowOf of.keys) (sym is) (of.ordered.each i row lt)

      found_here : IsFoundAs s of.keys row.key f
      found_here =
          let l : row.at < length fs = let b = row_here.0 in omega (arith, b, of.count) in
          subst (λ (q : Key). IsFoundAs s of.keys q f) (sym row_here.1) (subst (IsFoundAs s of.keys (key_in of.keys row.at)) (sym f_is) (of.found row.at f l))

      pub record_is : (r : RecordValue) → r.key ≡ row.key → r.value ≡ arc_value f.sealed.now → r.mark ≡ f.mark → r.edges ≡ map (rank_in ranks) f.edges.items → IsRecord r → IsDoneRecord s (keys_of rows) r
      record_is r key value mark edges kept = record {
        done = rw (key, value, mark, edges, keys_ranked f.edges.items found_here.inside) found_here.done;
        inside = subst (AllByRecursion (λ e. e < length (keys_of rows))) (sym edges) (ranks_inside f.edges.items found_here.inside);
        kept = kept;
      }
