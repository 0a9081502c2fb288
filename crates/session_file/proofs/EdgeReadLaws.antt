-- Edges: what is read is spelled there, and each spelling is read back.
use Rattle.std.proofs.Common.{◌≡◌, ◌≢◌, ℕ, zero, suc, ◌+◌, ◌-◌, ◌<◌, ◌≤◌, ◌^◌, ◌&&◌, Bool, true, false, not, cond, eqb, ltb, List, [], ◌∷◌, ◌++◌, length, get_or, Ok, Err, refl, sym, ap, subst, ◌∙◌, append_assoc, arith}
use Rattle.std.specs.Prelude.{◌↔◌, IsTrue}
use Rattle.std.specs.List.{AllByRecursion, flat_map}
use Rattle.std.specs.Cmp.{both_ways}
use Rattle.std.proofs.lemmas.Bool.{eqb-false, ne_eqb, ltb-true, lt-ltb, and_parts, and_from, or_parts, or_from, not-true, not_from_false}
use Rattle.std.proofs.lemmas.List.{append-nil}
use Rattle.std.proofs.lemmas.List.Concat.{flat_map-cons}
use Rattle.item_ids.specs.declared.key.Key.{Key}
use Rattle.item_ids.specs.Inputs.{rank}
use Rattle.item_ids.specs.KeyLists.{NoneTwice}
use Rattle.item_ids.proofs.Lists.{all_push, once_push}
use Rattle.byte_readers.specs.Lawful.{IsBytes, Takes}
use Rattle.byte_readers.specs.Laws.{Takes-then, lawful_eight}
use Rattle.byte_readers.specs.Spelling.{eight}
use Rattle.byte_readers.specs.Reading.{eight_at}
use Rattle.sessions.specs.Sessions.{RecordValue, key_at, IsEdge}
use Rattle.sessions.specs.Edges.{IsNewEdge, AreEdges, IsNoneOf}
use Rattle.sessions.proofs.Lists.{all_last, distinct_last}
use Rattle.sessions.proofs.EdgeLaws.{SoFar}
use Rattle.session_file.specs.declared.fault.FileFault.{FileFault}
use Rattle.session_file.specs.declared.fault.FileFault.TheVariants.{BadEdge}
use Rattle.session_file.specs.Reading.{or_truncated, is_among, is_next_edge, edges_from}
use Rattle.session_file.proofs.ReadLaws.{done, ok_is, bind_ok, bind_is, guard_so, number_takes, number_again}

none_among : (ds : List ℕ) (e : ℕ) → is_among ds e ≡ false → IsNoneOf ds e
none_among [] e h = tt
none_among (d ∷ ds) e h = let n = or_parts (eqb d e) (is_among ds e) h in (eqb-false d e n.0, none_among ds e n.1)

among_none : (ds : List ℕ) (e : ℕ) → IsNoneOf ds e → is_among ds e ≡ false
among_none [] e h = refl
among_none (d ∷ ds) e h = or_from (eqb d e) (is_among ds e) (ne_eqb d e h.0) (among_none ds e h.1)

pub next_edge : (front : List RecordValue) (key : Key) (edges : List ℕ) (e : ℕ) → is_next_edge front key edges e ≡ true → IsEdge front key e × IsNoneOf edges e
next_edge front key edges e h =
    let a = and_parts (ltb e (length front)) (ltb (rank (key_at front e)) (rank key) && not (is_among edges e)) h in
    let b = and_parts (ltb (rank (key_at front e)) (rank key)) (not (is_among edges e)) a.1 in
    ((ltb-true _ _ a.0, ltb-true _ _ b.0), none_among edges e (not-true _ b.1))

pub is_next : (front : List RecordValue) (key : Key) (edges : List ℕ) (e : ℕ) → IsEdge front key e → IsNoneOf edges e → is_next_edge front key edges e ≡ true
is_next front key edges e h none =
    and_from (ltb e (length front)) (ltb (rank (key_at front e)) (rank key) && not (is_among edges e)) (lt-ltb _ _ h.0) (and_from (ltb (rank (key_at front e)) (rank key)) (not (is_among edges e)) (lt-ltb _ _ h.1) (not_from_false _ (among_none edges e none)))

not_seen : (seen : List Bool) (e : ℕ) (b : Bool) → get_or seen e false ≡ b → (get_or seen e false ≡ true → ⊥) → get_or seen e false ≡ false
not_seen seen e true is h = absurd (h is)
not_seen seen e false is h = is

-- the test of an edge, by what was seen
pub admitted_is : (seen : List Bool) (front : List RecordValue) (key : Key) (edges : List ℕ) (e : ℕ) (admitted : Bool) → SoFar seen front key edges → IsTrue admitted ↔ IsNewEdge seen front key e → admitted ≡ is_next_edge front key edges e
admitted_is seen front key edges e admitted h is =
    both_ways admitted (is_next_edge front key edges e)
    (λ t. let new = is.0 t in is_next front key edges e new.0 (h.tells.unseen e (omega (arith, h.same, new.0.0)) new.1))
    (λ t. let next = next_edge front key edges e t in
    is.1 (next.0, not_seen seen e (get_or seen e false) refl (λ one. h.tells.seen_one e (omega (arith, h.same, next.0.0)) one next.1)))

-- ---- one edge after the other

pub record EdgesRead (front : List RecordValue) (key : Key) (edges : List ℕ) (n : ℕ) (bytes all rest : List ℕ) : Type 0 where
  pub items : List ℕ
  pub whole_is : edges ++ items ≡ all
  pub count_is : length items ≡ n
  pub takes : Takes bytes (flat_map eight items) rest
  pub are : AreEdges front key all

pub edges_take : (front : List RecordValue) (key : Key) (n : ℕ) (edges bytes all rest : List ℕ) → AreEdges front key edges → IsBytes bytes → edges_from front key edges n bytes ≡ Ok (all, rest) → EdgesRead front key edges n bytes all rest
unfolding edges_from
edges_take front key zero edges bytes all rest are fits e =
    let is = ok_is (edges, bytes) (all, rest) e in
    record {
      items = [];
      whole_is = append-nil edges ∙ ap (λ (x : List ℕ × List ℕ). x.0) is;
      count_is = refl;
      takes = record { parts = ap (λ (x : List ℕ × List ℕ). x.1) is; rest_fits = subst IsBytes (ap (λ (x : List ℕ × List ℕ). x.1) is) fits };
      are = subst (λ (x : List ℕ × List ℕ). AreEdges front key x.0) is are;
    }
edges_take front key (suc n) edges bytes all rest are fits e =
    let a = bind_ok (or_truncated (eight_at bytes)) (λ e. cond (is_next_edge front key edges e.0) (edges_from front key (edges ++ e.0 ∷ []) n e.1) (Err (BadEdge (length front) (length edges)))) (all, rest) e in
    let g = guard_so (is_next_edge front key edges a.0.0) (BadEdge (length front) (length edges)) (edges_from front key (edges ++ a.0.0 ∷ []) n a.0.1) (all, rest) a.2 in
    let next = next_edge front key edges a.0.0 g.0 in
    let t = number_takes lawful_eight bytes a.0.0 a.0.1 fits a.1 in
    let more : AreEdges front key (edges ++ a.0.0 ∷ []) = (all_push (IsEdge front key) edges a.0.0 are.0 next.0, once_push (λ (m : ℕ). m) edges a.0.0 are.1 next.1) in
    let u = edges_take front key n (edges ++ a.0.0 ∷ []) a.0.1 all rest more t.0.rest_fits g.1 in
    record {
      items = a.0.0 ∷ u.items;
      whole_is = sym (append_assoc edges (a.0.0 ∷ []) u.items) ∙ u.whole_is;
      count_is = ap (λ (k : ℕ). suc k) u.count_is;
      takes = rw flat_map-cons (Takes-then bytes (eight a.0.0) a.0.1 (flat_map eight u.items) rest t.0 u.takes);
      are = u.are;
    }

all_prefix : {A : Type 0} (P : A → Type 0) (xs ys : List A) → AllByRecursion P (xs ++ ys) → AllByRecursion P xs
all_prefix P [] ys h = tt
all_prefix P (x ∷ xs) ys h = (h.0, all_prefix P xs ys h.1)

distinct_prefix : (xs ys : List ℕ) → NoneTwice (λ n. n) (xs ++ ys) → NoneTwice (λ n. n) xs
distinct_prefix [] ys h = tt
distinct_prefix (x ∷ xs) ys h = (all_prefix (λ m. m ≢ x) xs ys h.0, distinct_prefix xs ys h.1)

pub edges_again : (front : List RecordValue) (key : Key) (items edges rest : List ℕ) → length front < 2 ^ 64 → AreEdges front key (edges ++ items) → edges_from front key edges (length items) (flat_map eight items ++ rest) ≡ Ok (edges ++ items, rest)
unfolding edges_from
edges_again front key [] edges rest few are = ap (λ (x : List ℕ). done (x, rest)) (sym (append-nil edges))
edges_again front key (e ∷ items) edges rest few are =
    let regrouped : flat_map eight (e ∷ items) ++ rest ≡ eight e ++ (flat_map eight items ++ rest) = ap (λ (x : List ℕ). x ++ rest) (flat_map-cons eight e items) ∙ append_assoc (eight e) (flat_map eight items) rest in
    let longer : AreEdges front key ((edges ++ e ∷ []) ++ items) = subst (AreEdges front key) (sym (append_assoc edges (e ∷ []) items)) are in
    let here_all : AllByRecursion (IsEdge front key) (edges ++ e ∷ []) = all_prefix (IsEdge front key) (edges ++ e ∷ []) items longer.0 in
    let here_distinct : NoneTwice (λ n. n) (edges ++ e ∷ []) = distinct_prefix (edges ++ e ∷ []) items longer.1 in
    let edge : IsEdge front key e = all_last (IsEdge front key) edges e here_all in
    let next : is_next_edge front key edges e ≡ true = is_next front key edges e edge (distinct_last edges e here_distinct) in
    let small : e < 2 ^ 64 = omega (arith, edge.0, few) in
    ap (edges_from front key edges (suc (length items))) regrouped
    ∙ bind_is (or_truncated (eight_at (eight e ++ (flat_map eight items ++ rest)))) (λ e. cond (is_next_edge front key edges e.0) (edges_from front key (edges ++ e.0 ∷ []) (length items) e.1) (Err (BadEdge (length front) (length edges)))) (e, flat_map eight items ++ rest) (number_again lawful_eight e (flat_map eight items ++ rest) small)
    ∙ rw next (edges_again front key items (edges ++ e ∷ []) rest few longer)
    ∙ ap (λ (x : List ℕ). done (x, rest)) (append_assoc edges (e ∷ []) items)

-- ---- the loop

pub edges_go_on : (front : List RecordValue) (key : Key) (edges : List ℕ) (count i : ℕ) (bytes : List ℕ) (e : ℕ) (after : List ℕ) → i < count → or_truncated (eight_at bytes) ≡ Ok (e, after) → is_next_edge front key edges e ≡ true → edges_from front key edges (count - i) bytes ≡ edges_from front key (edges ++ e ∷ []) (count - (i + 1)) after
unfolding edges_from
edges_go_on front key edges count i bytes e after lt h next =
    let k : count - i ≡ suc (count - (i + 1)) = omega arith in
    rw (k, h, next) refl

pub edges_refused : (front : List RecordValue) (key : Key) (edges : List ℕ) (count i : ℕ) (bytes : List ℕ) (e : ℕ) (after : List ℕ) → i < count → or_truncated (eight_at bytes) ≡ Ok (e, after) → is_next_edge front key edges e ≡ false → edges_from front key edges (count - i) bytes ≡ Err (BadEdge (length front) (length edges))
unfolding edges_from
edges_refused front key edges count i bytes e after lt h not_next =
    let k : count - i ≡ suc (count - (i + 1)) = omega arith in
    rw (k, h, not_next) refl

pub edges_break : (front : List RecordValue) (key : Key) (edges : List ℕ) (count i : ℕ) (bytes : List ℕ) (fault : FileFault) → i < count → or_truncated (eight_at bytes) ≡ Err fault → edges_from front key edges (count - i) bytes ≡ Err fault
unfolding edges_from
edges_break front key edges count i bytes fault lt h =
    let k : count - i ≡ suc (count - (i + 1)) = omega arith in
    rw (k, h) refl

pub edges_done : (front : List RecordValue) (key : Key) (edges : List ℕ) (count i : ℕ) (bytes : List ℕ) → count ≤ i → edges_from front key edges (count - i) bytes ≡ Ok (edges, bytes)
unfolding edges_from
edges_done front key edges count i bytes le =
    let k : count - i ≡ 0 = omega arith in
    rw k refl
