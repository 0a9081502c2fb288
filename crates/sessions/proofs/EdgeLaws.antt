-- Edges that are looked at one after the other.
use Rattle.std.proofs.Common.{◌≡◌, ◌≢◌, ℕ, zero, suc, ◌<◌, ◌+◌, ◌≤◌, inl, inr, Bool, true, false, List, [], ◌∷◌, ◌++◌, length, take, get_or, set, refl, sym, ap, subst, ◌∙◌, arith}
use Rattle.std.specs.Prelude.{◌==◌}
use Rattle.std.specs.List.{AllByRecursion}
use Rattle.std.proofs.lemmas.List.{get_or-set_same, get_or-set_other, length-set, map-set, length_push, map_push, take_more}
use Rattle.std.proofs.lemmas.Bool.{cases_eq, ne_eqb, eq-eqb}
use Rattle.item_ids.specs.declared.key.Key.{Key}
use Rattle.item_ids.proofs.Lists.{all_push, once_push}
use Rattle.sessions.specs.Sessions.{RecordValue, IsEdge}
use Rattle.sessions.specs.Edges.{seen_in, IsNewEdge, AreEdges, IsNoneOf, AreSeenEdges}
use Rattle.sessions.specs.Refusals.{IsFirstBadEdge}
use Rattle.sessions.proofs.Lists.{all_front, all_last, distinct_last}

-- ---- what was seen

all_false : (seen : List Bool) (e : ℕ) → AllByRecursion (λ b. b ≡ false) seen → get_or seen e false ≡ false
all_false [] e h = refl
all_false (b ∷ bs) zero h = h.0
all_false (b ∷ bs) (suc e) h = all_false bs e h.1

pub false_true : {A : Type 0} (b : Bool) → b ≡ false → b ≡ true → A
false_true b f t = absurd cc

pub tells_none : (seen : List Bool) → AllByRecursion (λ b. b ≡ false) seen → AreSeenEdges seen []
tells_none seen h = record {
  unseen = λ e lt is. tt;
  seen_one = λ e lt is. false_true (get_or seen e false) (all_false seen e h) is;
}

pub tells_more : (seen : List Bool) (edges : List ℕ) (e : ℕ) → AreSeenEdges seen edges → e < length seen → AreSeenEdges (set seen e true) (edges ++ e ∷ [])
tells_more seen edges e t lt = record {
  unseen = λ k in_range is. elim (cases_eq k e) [
    | inl same ↦ false_true (get_or (set seen e true) k false) is (ap (λ (n : ℕ). get_or (set seen e true) n false) same ∙ get_or-set_same seen e true false lt)
    | inr other ↦ all_push (λ m. m ≢ k) edges e (t.unseen k (omega (arith, in_range, length-set seen e true)) (sym (get_or-set_other seen e k true false other) ∙ is)) (λ q. other (sym q))
  ];
  seen_one = λ k in_range is none. elim (cases_eq k e) [
    | inl same ↦ all_last (λ m. m ≢ k) edges e none (sym same)
    | inr other ↦ t.seen_one k (omega (arith, in_range, length-set seen e true)) (sym (get_or-set_other seen e k true false other) ∙ is) (all_front (λ m. m ≢ k) edges e none)
  ];
}

-- one more edge
pub edges_more : (front : List RecordValue) (key : Key) (seen : List Bool) (edges : List ℕ) (e : ℕ) → AreSeenEdges seen edges → length seen ≡ length front → AreEdges front key edges → IsNewEdge seen front key e → AreEdges front key (edges ++ e ∷ [])
edges_more front key seen edges e t len h new =
    (all_push (IsEdge front key) edges e h.0 new.0, once_push (λ (m : ℕ). m) edges e h.1 (t.unseen e (omega (arith, len, new.0.0)) new.1))

-- what the next edge has to be
pub edge_is_new : (front : List RecordValue) (key : Key) (seen : List Bool) (edges : List ℕ) (e : ℕ) → AreSeenEdges seen edges → length seen ≡ length front → AreEdges front key (edges ++ e ∷ []) → IsNewEdge seen front key e
edge_is_new front key seen edges e t len h =
    let edge : IsEdge front key e = all_last (IsEdge front key) edges e h.0 in
    let none : IsNoneOf edges e = distinct_last edges e h.1 in
    let unseen : (b : Bool) → get_or seen e false ≡ b → get_or seen e false ≡ false = λ b is.
    elim b as (λ b. get_or seen e false ≡ b → get_or seen e false ≡ false) [ true ↦ λ is. absurd (t.seen_one e (omega (arith, len, edge.0)) is none) | false ↦ λ is. is ] is in
    (edge, unseen (get_or seen e false) refl)

-- ---- turns

pub seen_next : (n : ℕ) (last : List ℕ) → AllByRecursion (λ at. at ≤ n) last → AllByRecursion (λ b. b ≡ false) (seen_in (n + 1) last)
seen_next n [] h = tt
seen_next n (at ∷ last) h = (ne_eqb at (n + 1) (λ e. absurd (omega (arith, h.0))), seen_next n last h.1)

pub turns_more : (n m : ℕ) (last : List ℕ) → n ≤ m → AllByRecursion (λ at. at ≤ n) last → AllByRecursion (λ at. at ≤ m) last
turns_more n m [] le h = tt
turns_more n m (at ∷ last) le h = (omega (arith, h.0), turns_more n m last le h.1)

pub turns_set : (n : ℕ) (last : List ℕ) (e : ℕ) → AllByRecursion (λ at. at ≤ n) last → AllByRecursion (λ at. at ≤ n) (set last e n)
turns_set n [] e h = tt
turns_set n (at ∷ last) zero h = (omega arith, h.1)
turns_set n (at ∷ last) (suc e) h = (h.0, turns_set n last e h.1)

-- one more record, which wasn't seen
pub unseen_push : (old new : List ℕ) → new ≡ old ++ 0 ∷ [] → AllByRecursion (λ at. at ≤ length old) old → AllByRecursion (λ b. b ≡ false) (seen_in (length new) new)
unseen_push old new is h =
    let len : length (old ++ 0 ∷ []) ≡ length old + 1 = length_push old 0 in
    let first : seen_in (length old + 1) (old ++ 0 ∷ []) ≡ seen_in (length old + 1) old ++ (0 == length old + 1) ∷ [] = map_push (λ at. at == length old + 1) old 0 in
    let none : (0 == length old + 1) ≡ false = ne_eqb 0 (length old + 1) (λ e. absurd (omega (arith, e))) in
    let all : AllByRecursion (λ b. b ≡ false) (seen_in (length old + 1) old ++ (0 == length old + 1) ∷ []) = all_push (λ b. b ≡ false) (seen_in (length old + 1) old) (0 == length old + 1) (seen_next (length old) old h) none in
    subst (λ (xs : List ℕ). AllByRecursion (λ b. b ≡ false) (seen_in (length xs) xs)) (sym is) (subst (λ (n : ℕ). AllByRecursion (λ b. b ≡ false) (seen_in n (old ++ 0 ∷ []))) (sym len) (subst (AllByRecursion (λ b. b ≡ false)) (sym first) all))

-- an index that is seen
pub seen_set : (old new : List ℕ) (e : ℕ) → new ≡ set old e (length old) → seen_in (length new) new ≡ set (seen_in (length old) old) e true
seen_set old new e is =
    subst (λ (xs : List ℕ). seen_in (length xs) xs ≡ set (seen_in (length old) old) e true) (sym is)
    (ap (λ (n : ℕ). seen_in n (set old e (length old))) (length-set old e (length old)) ∙ map-set (λ at. at == length old) old e (length old) ∙ ap (λ (b : Bool). set (seen_in (length old) old) e b) (eq-eqb (length old) (length old) refl))

pub turns_after : (old new : List ℕ) (e : ℕ) → new ≡ set old e (length old) → AllByRecursion (λ at. at ≤ length old) old → AllByRecursion (λ at. at ≤ length new) new
turns_after old new e is h =
    subst (λ (xs : List ℕ). AllByRecursion (λ at. at ≤ length xs) xs) (sym is) (subst (λ (n : ℕ). AllByRecursion (λ at. at ≤ n) (set old e (length old))) (sym (length-set old e (length old))) (turns_set (length old) old e h))

pub turns_push : (old new : List ℕ) → new ≡ old ++ 0 ∷ [] → AllByRecursion (λ at. at ≤ length old) old → AllByRecursion (λ at. at ≤ length new) new
turns_push old new is h =
    let len : length (old ++ 0 ∷ []) ≡ length old + 1 = length_push old 0 in
    subst (λ (xs : List ℕ). AllByRecursion (λ at. at ≤ length xs) xs) (sym is) (subst (λ (n : ℕ). AllByRecursion (λ at. at ≤ n) (old ++ 0 ∷ [])) (sym len) (all_push (λ at. at ≤ length old + 1) old 0 (turns_more (length old) (length old + 1) old (omega arith) h) (omega arith)))

-- ---- one edge after the other

pub record SoFar (seen : List Bool) (front : List RecordValue) (key : Key) (edges : List ℕ) : Type 0 where
  pub same : length seen ≡ length front
  pub tells : AreSeenEdges seen edges
  pub are : AreEdges front key edges

pub so_far_more : (seen new : List Bool) (front : List RecordValue) (key : Key) (edges : List ℕ) (e : ℕ) → SoFar seen front key edges → IsNewEdge seen front key e → new ≡ set seen e true → SoFar new front key (edges ++ e ∷ [])
so_far_more seen new front key edges e h is_new is =
    let lt : e < length seen = omega (arith, h.same, is_new.0.0) in
    subst (λ (xs : List Bool). SoFar xs front key (edges ++ e ∷ [])) (sym is) (record {
      same = length-set seen e true ∙ h.same;
      tells = tells_more seen edges e h.tells lt;
      are = edges_more front key seen edges e h.tells h.same h.are is_new;
    })

pub so_far_next : (seen new : List Bool) (front : List RecordValue) (key : Key) (edges : List ℕ) (j e : ℕ) → j < length edges → e ≡ get_or edges j 0 → SoFar seen front key (take j edges) → IsNewEdge seen front key e → new ≡ set seen e true → SoFar new front key (take (j + 1) edges)
so_far_next seen new front key edges j e lt item h is_new is =
    subst (SoFar new front key) (sym (take_more edges j 0 lt ∙ ap (λ (n : ℕ). take j edges ++ n ∷ []) (sym item))) (so_far_more seen new front key (take j edges) e h is_new is)

pub bad_here : (seen : List Bool) (front : List RecordValue) (key : Key) (edges : List ℕ) (j e : ℕ) → j < length edges → e ≡ get_or edges j 0 → SoFar seen front key (take j edges) → ¬ IsNewEdge seen front key e → IsFirstBadEdge front key edges j
bad_here seen front key edges j e lt item h not_new = record {
  inside = lt;
  before = h.are;
  bad = λ are. not_new (edge_is_new front key seen (take j edges) e h.tells h.same (subst (AreEdges front key) (take_more edges j 0 lt ∙ ap (λ (n : ℕ). take j edges ++ n ∷ []) (sym item)) are));
}
