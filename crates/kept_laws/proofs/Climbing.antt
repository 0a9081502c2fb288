-- A chain takes of the index which of its classes there are.
use Rattle.std.proofs.Common.{◌≡◌, inl, inr, ℕ, zero, suc, ◌+◌, ◌<◌, ◌≤◌, Bool, true, false, List, [], ◌∷◌, ◌++◌, length, length-append, map, Contains, Option, Some, None, option_and_then, refl, sym, ap, ap₂, subst, ◌∙◌, arith, if◌then◌else◌}
use Rattle.std.specs.List.{AllByRecursion}
use Rattle.std.specs.Str.{bytes_eq}
use Rattle.std.proofs.lemmas.Slice.Eq.{bytes_eq-Decides}
use Rattle.std.proofs.lemmas.List.Elements.{Contains-push_cases}
use Rattle.item_ids.specs.declared.key.Key.{Key}
use Rattle.item_ids.specs.declared.key.Key.TheVariants as keys
use Rattle.mj_tree.specs.Trees.{Name}
use Rattle.mj_classes.specs.Chains.{AreDistinct, is_in}
use Rattle.mj_classes.proofs.Distinct.{In, pigeons, nowhere, in_contains, distinct_push, not_listed}
use Rattle.result_bytes.specs.declared.files.IndexRow.{IndexRow}
use Rattle.result_bytes.specs.declared.value.Value.{Value}
use Rattle.result_bytes.specs.declared.value.Value.TheVariants as values
use Rattle.result_bytes.specs.Payloads.{HeaderValue, ChainValue}
use Rattle.result_bytes.specs.Parts.{header_in, index_in, supers_in}
use Rattle.recorder.specs.Backed.{is_seen}
use Rattle.recorder.specs.Programs.{Prog, Ret, runs, asks}
use Rattle.member_queries.specs.declared.supers.Climb.{Climb}
use Rattle.member_queries.specs.declared.supers.Climb.TheVariants.{At, Over}
use Rattle.result_bytes.specs.declared.parts.ChainEnd.{ChainEnd}
use Rattle.result_bytes.specs.declared.parts.ChainEnd.TheVariants.{Top, Undeclared, Repeated}
use Rattle.member_queries.specs.Supers.{is_listed, chain, climb_by, climb_on, chain_steps, listed_steps, supers_steps}
use Rattle.keeping.specs.Kept.{AlikeBut, TakesSame}
use Rattle.kept_laws.specs.Parts.{ListSame, ListSameEnd, ListSameChain}
use Rattle.kept_laws.specs.Laws.{SupersKept}
use Rattle.keeping.proofs.Runs.{all_before}
use Rattle.keeping.proofs.Kept.{kept_law}

differs : true ≡ false → ⊥
differs e = cc

-- ---- distinct names of an index are no more than its rows

abbrev Listed : List IndexRow → List Name → Type 0
Listed rows xs = (x : Name) → Contains xs x → is_listed rows x ≡ true

abbrev classes : List IndexRow → List Name
classes rows = map (λ (r : IndexRow). r.class) rows

listed_in : (rows : List IndexRow) (u : Name) → is_listed rows u ≡ true → In u (classes rows)
listed_in [] u e = absurd (differs (sym e))
listed_in (r ∷ rs) u e = go (listed_in rs u) (bytes_eq r.class u) refl e
  where
    go : (is_listed rs u ≡ true → In u (classes rs)) → (t : Bool) → bytes_eq r.class u ≡ t → is_listed (r ∷ rs) u ≡ true → In u (classes (r ∷ rs))
    go ih true h f = inl ((bytes_eq-Decides r.class u).0 h)
    go ih false h f = inr (ih (rw h at f))

as_many : (rows : List IndexRow) → length (classes rows) ≡ length rows
as_many [] = refl
as_many (r ∷ rs) = ap suc (as_many rs)

few : (rows : List IndexRow) (xs : List Name) → AreDistinct xs → Listed rows xs → length xs ≤ length rows
few rows xs d h =
    let p = pigeons xs (classes rows) d (λ x i. listed_in rows x (h x (in_contains xs x i))) in
    omega (arith, p, as_many rows)

listed_push : (rows : List IndexRow) (xs : List Name) (u : Name) → Listed rows xs → is_listed rows u ≡ true → Listed rows (xs ++ u ∷ [])
listed_push rows xs u h e x i = elim (Contains-push_cases xs u x i) [
  | inl j ↦ h x j
  | inr same ↦ subst (λ (z : Name). is_listed rows z ≡ true) same e
]

-- ---- the chain

abbrev last : ChainValue → Prog
last x = Ret (values.Supers (Some x))

abbrev superclass : Value → Option Name
superclass w = option_and_then (λ (h : HeaderValue). h.superclass) (header_in w)

-- where a chain continues with a superclass, by whether it has it, and whether the index has it
abbrev climb_if : Bool → Bool → Name → Climb
climb_if i l u = if i then Over (Repeated u) else if l then At u else Over (Undeclared u)

module _ (a b v : Value) (m n : Key → Value) (alike : AlikeBut keys.Index m n) (same : ListSameChain a b (supers_in v)) where
  abbrev A : List IndexRow
  A = index_in a

  abbrev B : List IndexRow
  B = index_in b

  over : (names : List Name) (end : ChainEnd) → values.Supers (Some (chain names end)) ≡ v → AllByRecursion (ListSame a b) names × ListSameEnd a b end
  over names end h = subst (λ (w : Value). ListSameChain a b (supers_in w)) (sym h) same

  within_on : (more : ℕ) (names : List Name) (at : Climb) → ((u : Name) → runs (chain_steps more A names u last) m ≡ v → AllByRecursion (ListSame a b) names)
      → runs (climb_on (chain_steps more A) (names, at) last) m ≡ v → AllByRecursion (ListSame a b) names
  unfolding runs
  within_on more names (At u) ih h = ih u h
  within_on more names (Over end) ih h = (over names end h).0

  within : (more : ℕ) (names : List Name) (c : Name) → runs (chain_steps more A names c last) m ≡ v → AllByRecursion (ListSame a b) names
  unfolding runs chain_steps
  within zero names c h = (over names Top h).0
  within (suc more) names c h = (all_before (ListSame a b) names c (within_on more (names ++ c ∷ []) (climb_by A (names ++ c ∷ []) (superclass (m (keys.Header c)))) (within more (names ++ c ∷ [])) h)).0

  -- a class of the chain
  of_chain : (more : ℕ) (names : List Name) (c : Name) → 0 < more → runs (chain_steps more A names c last) m ≡ v → ListSame a b c
  unfolding runs chain_steps
  of_chain zero names c lt h = absurd (omega (arith, lt))
  of_chain (suc more) names c lt h = (all_before (ListSame a b) names c (within_on more (names ++ c ∷ []) (climb_by A (names ++ c ∷ []) (superclass (m (keys.Header c)))) (within more (names ++ c ∷ [])) h)).1

  abbrev Alike : Prog → Prog → List Key → Type 0
  Alike p q seen = (runs q n ≡ v) × (asks q n seen ≡ asks p m seen)

  abbrev Climbs : ℕ → ℕ → List Name → Type 0
  Climbs more also names =
      (u : Name) → runs (chain_steps more A names u last) m ≡ v → AreDistinct (names ++ u ∷ []) → Listed A (names ++ u ∷ []) → Listed B (names ++ u ∷ [])
      → (seen : List Key) → Alike (chain_steps more A names u last) (chain_steps also B names u last) seen

  by_tests : (more also : ℕ) (names : List Name) → AreDistinct names → Listed A names → Listed B names → more + length names ≡ length A → Climbs more also names
      → (u : Name) (i s t : Bool) → is_in names u ≡ i → is_listed A u ≡ s → is_listed B u ≡ t
      → runs (climb_on (chain_steps more A) (names, climb_if i s u) last) m ≡ v
      → (seen : List Key) → Alike (climb_on (chain_steps more A) (names, climb_if i s u) last) (climb_on (chain_steps also B) (names, climb_if i t u) last) seen
  unfolding runs asks
  by_tests more also names d la lb ea ih u true s t ei es et h seen = (h, refl)
  by_tests more also names d la lb ea ih u false true true ei es et h seen =
      ih u h (distinct_push names u d (not_listed names u ei)) (listed_push A names u la es) (listed_push B names u lb et) seen
  by_tests more also names d la lb ea ih u false false false ei es et h seen = (h, refl)
  by_tests more also names d la lb ea ih u false true false ei es et h seen =
      let f = few A (names ++ u ∷ []) (distinct_push names u d (not_listed names u ei)) (listed_push A names u la es) in
      let lt : 0 < more = omega (arith, f, ea, length-append names (u ∷ [])) in
      absurd (differs (sym es ∙ of_chain more names u lt h ∙ et))
  by_tests more also names d la lb ea ih u false false true ei es et h seen =
      absurd (differs (sym et ∙ sym (over names (Undeclared u) h).1 ∙ es))

  on : (more also : ℕ) (names : List Name) → AreDistinct names → Listed A names → Listed B names → more + length names ≡ length A → Climbs more also names
      → (s : Option Name) → runs (climb_on (chain_steps more A) (names, climb_by A names s) last) m ≡ v
      → (seen : List Key) → Alike (climb_on (chain_steps more A) (names, climb_by A names s) last) (climb_on (chain_steps also B) (names, climb_by B names s) last) seen
  unfolding runs asks
  on more also names d la lb ea ih None h seen = (h, refl)
  on more also names d la lb ea ih (Some u) h seen = by_tests more also names d la lb ea ih u (is_in names u) (is_listed A u) (is_listed B u) refl refl refl h seen

  -- one more header, which both read
  both : (more also : ℕ) (names : List Name) (c : Name)
      → ((seen : List Key) → Alike (climb_on (chain_steps more A) (names ++ c ∷ [], climb_by A (names ++ c ∷ []) (superclass (m (keys.Header c)))) last) (climb_on (chain_steps also B) (names ++ c ∷ [], climb_by B (names ++ c ∷ []) (superclass (m (keys.Header c)))) last) seen)
      → (seen : List Key) → Alike (chain_steps (suc more) A names c last) (chain_steps (suc also) B names c last) seen
  unfolding runs asks chain_steps
  both more also names c r seen =
      let e : n (keys.Header c) ≡ m (keys.Header c) = sym (alike (keys.Header c) (λ (no : keys.Header c ≡ keys.Index). absurd cc)) in (
        ap (λ w. runs (climb_on (chain_steps also B) (names ++ c ∷ [], climb_by B (names ++ c ∷ []) (superclass w)) last) n) e ∙ (r seen).0,
        ap₂ (λ (old new : List Key). if is_seen seen (keys.Header c) then old else keys.Header c ∷ new)
            (ap (λ w. asks (climb_on (chain_steps also B) (names ++ c ∷ [], climb_by B (names ++ c ∷ []) (superclass w)) last) n seen) e ∙ (r seen).1)
            (ap (λ w. asks (climb_on (chain_steps also B) (names ++ c ∷ [], climb_by B (names ++ c ∷ []) (superclass w)) last) n (seen ++ keys.Header c ∷ [])) e ∙ (r (seen ++ keys.Header c ∷ [])).1),
      )

  climbs : (more also : ℕ) (names : List Name) → more + length names ≡ length A → also + length names ≡ length B → Climbs more also names
  unfolding runs chain_steps
  climbs zero also names ea eb c h d la lb seen =
      let f = few A (names ++ c ∷ []) d la in absurd (omega (arith, f, ea, length-append names (c ∷ [])))
  climbs (suc more) zero names ea eb c h d la lb seen =
      let f = few B (names ++ c ∷ []) d lb in absurd (omega (arith, f, eb, length-append names (c ∷ [])))
  climbs (suc more) (suc also) names ea eb c h d la lb seen =
      let fa : more + length (names ++ c ∷ []) ≡ length A = omega (arith, ea, length-append names (c ∷ [])) in
      let fb : also + length (names ++ c ∷ []) ≡ length B = omega (arith, eb, length-append names (c ∷ [])) in
      both more also names c (on more also (names ++ c ∷ []) d la lb fa (climbs more also (names ++ c ∷ []) fa fb) (superclass (m (keys.Header c))) h) seen

  one_listed : (rows : List IndexRow) (c : Name) → is_listed rows c ≡ true → Listed rows (c ∷ [])
  one_listed rows c e = listed_push rows [] c (λ x i. absurd (nowhere x i)) e

  starts : (c : Name) → ListSame a b c → (s t : Bool) → is_listed A c ≡ s → is_listed B c ≡ t → runs (listed_steps s A c Ret) m ≡ v
      → (seen : List Key) → Alike (listed_steps s A c Ret) (listed_steps t B c Ret) seen
  unfolding runs asks
  starts c l true true es et h seen =
      let za : length A + length {A = Name} [] ≡ length A = omega arith in
      let zb : length B + length {A = Name} [] ≡ length B = omega arith in
      climbs (length A) (length B) [] za zb c h (nowhere c, tt) (one_listed A c es) (one_listed B c et) seen
  starts c l false false es et h seen = (h, refl)
  starts c l true false es et h seen = absurd (differs (sym es ∙ l ∙ et))
  starts c l false true es et h seen = absurd (differs (sym et ∙ sym l ∙ es))

supers_takes : (c : Name) (a b v : Value) → ListSame a b c → ListSameChain a b (supers_in v) → TakesSame (supers_steps c Ret) keys.Index a b v
unfolding runs asks
supers_takes c a b v l same m n alike there here e =
    let h : runs (listed_steps (is_listed (index_in a) c) (index_in a) c Ret) m ≡ v = ap (λ w. runs (listed_steps (is_listed (index_in w) c) (index_in w) c Ret) m) (sym there) ∙ e in
    let r = starts a b v m n alike same c l (is_listed (index_in a) c) (is_listed (index_in b) c) refl refl h (keys.Index ∷ []) in (
      ap (λ w. runs (listed_steps (is_listed (index_in w) c) (index_in w) c Ret) n) here ∙ r.0,
      ap (λ (ks : List Key). keys.Index ∷ ks)
          (ap (λ w. asks (listed_steps (is_listed (index_in w) c) (index_in w) c Ret) n (keys.Index ∷ [])) here ∙ r.1
          ∙ ap (λ w. asks (listed_steps (is_listed (index_in w) c) (index_in w) c Ret) m (keys.Index ∷ [])) (sym there)),
    )

pub supers_kept : SupersKept
supers_kept c a b v l same = kept_law (supers_steps c Ret) keys.Index a b v (supers_takes c a b v l same)
