-- Keys that edges lead to.
use Rattle.std.proofs.Common.{◌≡◌, ◌↔◌, ◌⊎◌, inl, inr, ℕ, zero, suc, ◌+◌, ◌<◌, ◌≤◌, List, [], ◌∷◌, ◌++◌, map, take, length, get_or, refl, sym, ap, ◌∙◌, subst, append-nil, eq-or-lt_of_le, arith}
use Rattle.std.specs.Prelude.{Contains, true, false, if◌then◌else◌}
use Rattle.std.specs.List.{list_any}
use Rattle.std.specs.Ordering.{eq_by_cmp}
use Rattle.indexmap.specs.IndexSet.{insert_key}
use Rattle.std.proofs.lemmas.List.{take_more, append_assoc, get_or_append_left, get_or_default}
use Rattle.std.proofs.lemmas.List.Elements.{All-contains, All-from_recursion, Contains-get_or, Contains-push, Contains-push_cases, Contains-append_left, Contains-append_right, Contains-append_cases}
use Rattle.item_ids.specs.declared.key.Key.{Key}
use Rattle.item_ids.specs.declared.key.Key.TheVariants.{Files, Source, Answer}
use Rattle.item_ids.specs.Keys.{key_cmp}
use Rattle.result_bytes.specs.declared.value.Value.{Value}
use Rattle.named_files.specs.Projects.{SourceFile}
use Rattle.recorder.specs.Projects.{Project}
use Rattle.sessions.specs.declared.mark.Mark.{Mark}
use Rattle.graph_rules.specs.Keys.{input_of}
use Rattle.graph_rules.specs.Steps.{Status, Done, State, IsDone}
use Rattle.graph_rules.specs.Sound.{IsDoneInOrder, IsInOrderAt, IsInOrder}
use Rattle.graph_rules.specs.Graphs.{IsRoot, answer, files, source, IsReached, edge}
use Rattle.graph_rules.specs.Graphs.IsReached.{root as starts}
use Rattle.graph_rules.proofs.KeySets.{has_found}
use Rattle.key_states.specs.Nodes.{Node, status_at}
use Rattle.key_states.specs.Reached.{key_in, AreRoots, AreReached, HasEdges, Spreads, AddsKeys}

-- ---- the roots

has_first : {X : Type 0} (x : X) (xs : List X) → Contains (x ∷ xs) x
has_first x xs = let lt : 0 < length (x ∷ xs) = omega arith in (0, lt, refl)

has_later : {X : Type 0} (x y : X) (xs : List X) → Contains xs y → Contains (x ∷ xs) y
has_later x y xs h = let lt : suc h.0 < length (x ∷ xs) = let b = h.1 in omega arith in (suc h.0, lt, h.2)

source_has : (p : List SourceFile) (file : List ℕ) → Contains (map (λ f. f.name) p) file → Contains (map (λ f. Source f.name) p) (Source file)
source_has [] file h = absurd (let b = h.1 in omega arith)
source_has (f ∷ p) file (zero, lt, is) = let l : 0 < length (map (λ (g : SourceFile). Source g.name) (f ∷ p)) = omega arith in (0, l, ap Source is)
source_has (f ∷ p) file (suc k, lt, is) = has_later (Source f.name) (Source file) (map (λ g. Source g.name) p) (source_has p file (k, (omega arith), is))

source_root : (p : List SourceFile) (q : Key) → Contains (map (λ f. Source f.name) p) q → (file : List ℕ) × Contains (map (λ f. f.name) p) file × (Source file ≡ q)
source_root [] q h = absurd (let b = h.1 in omega arith)
source_root (f ∷ p) q (zero, lt, is) = (f.name, has_first f.name (map (λ g. g.name) p), is)
source_root (f ∷ p) q (suc k, lt, is) = let h = source_root p q (k, (omega arith), is) in (h.0, has_later f.name h.0 (map (λ g. g.name) p) h.1, h.2)

roots_only : (p : Project) (q : Key) → Contains (map (λ f. Source f.name) p) q → IsRoot p q
roots_only p q h = let s = source_root p q h in subst (IsRoot p) s.2 (source s.0 s.1)

first_root : (p : Project) (q : Key) (k : ℕ) → k < length (Files ∷ map (λ f. Source f.name) p) → get_or (Files ∷ map (λ f. Source f.name) p) k q ≡ q → IsRoot p q
first_root p q zero lt is = subst (IsRoot p) is files
first_root p q (suc k) lt is = roots_only p q (k, (omega arith), is)

roots_has : (p : Project) (q : Key) → IsRoot p q → Contains ((Files ∷ map (λ f. Source f.name) p) ++ Answer ∷ []) q
roots_has p _ answer = Contains-push (Files ∷ map (λ f. Source f.name) p) Answer
roots_has p _ files = has_first Files (map (λ f. Source f.name) p ++ Answer ∷ [])
roots_has p _ (source file h) = Contains-append_left (Files ∷ map (λ f. Source f.name) p) (Answer ∷ []) (Source file) (has_later Files (Source file) (map (λ f. Source f.name) p) (source_has p file h))

pub are_roots : (p : Project) (ks : List Key) → ks ≡ (Files ∷ map (λ f. Source f.name) p) ++ Answer ∷ [] → AreRoots p ks
are_roots p ks is q = rw is (
  (λ h. elim (Contains-push_cases (Files ∷ map (λ f. Source f.name) p) Answer q h) [
    | inl c ↦ first_root p q c.0 c.1 c.2
    | inr e ↦ subst (IsRoot p) e answer
  ]),
  roots_has p q,
)

-- ---- keys that are added

pub adds_none : (old : List Key) → AddsKeys old [] old
adds_none old = record {
  more = [];
  whole = rw append-nil refl;
  only = λ q h. h;
  has = λ q h. absurd (let b = h.1 in omega arith);
}

-- a key that was there
adds_old : (found : List Key) (x : Key) → Contains found x → AddsKeys found (x ∷ []) found
adds_old found x there = record {
  more = [];
  whole = rw append-nil refl;
  only = λ q h. absurd (let b = h.1 in omega arith);
  has = λ q h. elim (Contains-push_cases [] x q h) [
    | inl c ↦ absurd (let b = c.1 in omega arith)
    | inr e ↦ subst (Contains found) e there
  ];
}

-- a key that is added
adds_new : (found : List Key) (x : Key) → AddsKeys found (x ∷ []) (found ++ x ∷ [])
adds_new found x = record {
  more = x ∷ [];
  whole = refl;
  only = λ q h. h;
  has = λ q h. Contains-append_right found (x ∷ []) q h;
}

-- a key that is inserted, if it may have been there
pub adds_inserted : (found : List Key) (x : Key) → AddsKeys found (x ∷ []) (insert_key (eq_by_cmp key_cmp) found x)
adds_inserted found x =
    (elim (list_any (eq_by_cmp key_cmp x) found) as (λ b. list_any (eq_by_cmp key_cmp x) found ≡ b → AddsKeys found (x ∷ []) (if b then found else found ++ x ∷ [])) [
      | true ↦ λ there. adds_old found x (has_found found x there)
      | false ↦ λ new. adds_new found x
    ]) refl

-- one more edge
pub adds_more : (old edges found new : List Key) (i : ℕ) (x : Key) → i < length edges → x ≡ get_or edges i x → AddsKeys old (take i edges) found → AddsKeys found (x ∷ []) new
    → AddsKeys old (take (i + 1) edges) new
adds_more old edges found new i x lt is so_far one = subst (λ (es : List Key). AddsKeys old es new) (sym front) (record {
  more = so_far.more ++ one.more;
  whole = one.whole ∙ (ap (λ (ks : List Key). ks ++ one.more) so_far.whole ∙ append_assoc old so_far.more one.more);
  only = λ q h. elim (Contains-append_cases so_far.more one.more q h) [
    | inl c ↦ Contains-append_left (take i edges) (x ∷ []) q (so_far.only q c)
    | inr c ↦ Contains-append_right (take i edges) (x ∷ []) q (one.only q c)
  ];
  has = λ q h. elim (Contains-append_cases (take i edges) (x ∷ []) q h) [
    | inl c ↦ subst (λ (ks : List Key). Contains ks q) (sym one.whole) (Contains-append_left found one.more q (so_far.has q c))
    | inr c ↦ one.has q c
  ];
})
  where
    front : take (i + 1) edges ≡ take i edges ++ x ∷ []
    front = take_more edges i x lt ∙ ap (λ (y : Key). take i edges ++ y ∷ []) (sym is)

-- ---- keys that are reached

pub roots_added : (p : Project) (first ks : List Key) → AreRoots p first → AddsKeys [] first ks → AreRoots p ks
roots_added p first ks roots a q = (
  (λ h. (roots q).0 (a.only q (subst (λ (xs : List Key). Contains xs q) a.whole h))),
  (λ r. a.has q ((roots q).1 r)),
)

pub spreads_first : (p : Project) (s : State) (ks : List Key) → AreRoots p ks → Spreads p s ks 0
spreads_first p s ks roots = record {
  roots = λ q r. (roots q).1 r;
  only = λ q h. starts q ((roots q).0 h);
  closed = λ j lt. absurd (omega arith);
}

pub key_stays : (ks more : List Key) (j : ℕ) → j < length ks → key_in (ks ++ more) j ≡ key_in ks j
key_stays ks more j lt = get_or_append_left ks more Files j lt

has_place : (ks : List Key) (j : ℕ) → j < length ks → Contains ks (key_in ks j)
has_place ks j lt = Contains-get_or ks j Files lt

same_done : (s : State) (q : Key) (v u : Value) (es fs : List Key) (m n : Mark) → s.at q ≡ Done v es m → s.at q ≡ Done u fs n → es ≡ fs
same_done s q v u es fs m n a b = let both : Done v es m ≡ Done u fs n = sym a ∙ b in cc

pub spreads_more : (p : Project) (s : State) (ks all : List Key) (i : ℕ) (v : Value) (es : List Key) (m : Mark)
    → Spreads p s ks i → i < length ks → s.at (key_in ks i) ≡ Done v es m → AddsKeys ks es all → Spreads p s all (i + 1)
spreads_more p s ks all i v es m sp lt is a = record {
  roots = λ q r. kept q (sp.roots q r);
  only = λ q h. elim (Contains-append_cases ks a.more q (subst (λ (xs : List Key). Contains xs q) a.whole h)) [
    | inl c ↦ sp.only q c
    | inr c ↦ edge (key_in ks i) v es m q (sp.only (key_in ks i) (has_place ks i lt)) is (a.only q c)
  ];
  closed = λ j below. subst (HasEdges s all) (sym (stays j (omega arith))) (closed j below);
}
  where
    kept : (q : Key) → Contains ks q → Contains all q
    kept q c = subst (λ (xs : List Key). Contains xs q) (sym a.whole) (Contains-append_left ks a.more q c)

    stays : (j : ℕ) → j < length ks → key_in all j ≡ key_in ks j
    stays j l = ap (λ (xs : List Key). key_in xs j) a.whole ∙ key_stays ks a.more j l

    closed : (j : ℕ) → j < i + 1 → HasEdges s all (key_in ks j)
    closed j below = elim (split j below) [
      | inl lower ↦ λ u fs n e h c. kept e (sp.closed j lower u fs n e h c)
      | inr same ↦ λ u fs n e h c. a.has e (subst (λ (xs : List Key). Contains xs e) (same_done s (key_in ks i) u v fs es n m (ap (λ (k : ℕ). s.at (key_in ks k)) (sym same) ∙ h) is) c)
    ]
      where
        split : (j : ℕ) → j < i + 1 → (j < i) ⊎ (j ≡ i)
        split j b = elim (eq-or-lt_of_le (let l : j ≤ i = omega arith in l)) [ inl e ↦ inr e | inr l ↦ inl l ]

pub spreads_last : (p : Project) (s : State) (ks : List Key) (i : ℕ) → Spreads p s ks i → length ks ≤ i → AreReached p s ks
spreads_last p s ks i sp le = λ q. (sp.only q, all q)
  where
    all : (q : Key) → IsReached p s q → Contains ks q
    all q (starts _ r) = sp.roots q r
    all _ (edge q v es m e reached is has) =
        let c = all q reached in
        let here : key_in ks c.0 ≡ q = get_or_default ks c.0 Files q c.1 ∙ c.2 in
        sp.closed c.0 (let l = c.1 in omega arith) v es m e (ap s.at here ∙ is) has

-- ---- what is reached is done

edge_done : (s : State) (q : Key) (x : Status) (v : Value) (es : List Key) (m : Mark) → x ≡ Done v es m → IsInOrderAt s q x → IsDoneInOrder s q v es m
edge_done s q x v es m is h = subst (IsInOrderAt s q) is h

pub reached_done : (p : Project) (s : State) → IsInOrder s → ((q : Key) → IsRoot p q → IsDone (s.at q)) → (q : Key) → IsReached p s q → IsDone (s.at q)
reached_done p s order roots q (starts _ r) = roots q r
reached_done p s order roots _ (edge q v es m e reached is has) =
    let d = edge_done s q (s.at q) v es m is (order q) in
    All-contains (λ k. IsDone (s.at k)) es e (All-from_recursion (λ k. IsDone (s.at k)) es d.done) has

pub roots_done : (p : Project) (ns : List Node) → IsDone (status_at p ns Answer) → (q : Key) → IsRoot p q → IsDone (status_at p ns q)
unfolding input_of
roots_done p ns done _ answer = done
roots_done p ns done _ files = tt
roots_done p ns done _ (source file has) = tt

-- a list with the same keys
pub reached_too : (p : Project) (s : State) (found ks : List Key) → AreReached p s found → ((q : Key) → Contains ks q ↔ Contains found q) → AreReached p s ks
reached_too p s found ks reached same q = ((λ h. (reached q).0 ((same q).0 h)), (λ r. (same q).1 ((reached q).1 r)))
