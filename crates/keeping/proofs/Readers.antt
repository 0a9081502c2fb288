-- A reader whose result a change keeps.
use Rattle.std.proofs.Common.{◌≡◌, ◌≢◌, ◌⊎◌, inl, inr, ℕ, Bool, true, false, List, [], ◌∷◌, Contains, refl, sym, ap, ap₂, subst, ◌∙◌, if◌then◌else◌}
use Rattle.std.specs.List.{AllByRecursion}
use Rattle.std.specs.Ordering.{is_eq}
use Rattle.std.proofs.lemmas.Bool.{cases_eq}
use Rattle.std.proofs.lemmas.List.Elements.{Contains-append_left, Contains-append_right, Contains-push}
use Rattle.item_ids.specs.declared.key.Key.{Key}
use Rattle.item_ids.specs.Keys.{key_cmp}
use Rattle.item_ids.proofs.Apart.{test_same, test_itself}
use Rattle.item_ids.proofs.Lists.{all_from}
use Rattle.named_files.proofs.Listed.{contains_at, place_of, map_at}
use Rattle.result_bytes.specs.declared.value.Value.{Value}
use Rattle.recorder.specs.Backed.{ReadValue}
use Rattle.recorder.specs.Programs.{Prog}
use Rattle.recorder.proofs.Recorded.{all_at}
use Rattle.keeping.specs.Follows.{Follows}
use Rattle.keeping.specs.Kept.{KeptBy, told_with}
use Rattle.keeping.specs.Readers.{read_at, told_at, AreApartFrom, ReaderLaw}

-- a place stands in a list, or none of its items is the place
finds : (es : List ℕ) (at : ℕ) → Contains es at ⊎ ((e : ℕ) → Contains es e → e ≢ at)
finds es at = go es
  where
    push : (e : ℕ) (rest : List ℕ) → (e ≡ at) ⊎ (e ≢ at) → Contains rest at ⊎ AllByRecursion (λ (x : ℕ). x ≢ at) rest → Contains (e ∷ rest) at ⊎ AllByRecursion (λ (x : ℕ). x ≢ at) (e ∷ rest)
    push e rest (inl same) h = inl (subst (Contains (e ∷ rest)) same (Contains-append_left (e ∷ []) rest e (Contains-push [] e)))
    push e rest (inr other) (inl has) = inl (Contains-append_right (e ∷ []) rest at has)
    push e rest (inr other) (inr none) = inr (other, none)

    all_of : (xs : List ℕ) → Contains xs at ⊎ AllByRecursion (λ (x : ℕ). x ≢ at) xs
    all_of [] = inr tt
    all_of (e ∷ rest) = push e rest (cases_eq e at) (all_of rest)

    go : (xs : List ℕ) → Contains xs at ⊎ ((e : ℕ) → Contains xs e → e ≢ at)
    go xs = elim (all_of xs) [
      | inl has ↦ inl has
      | inr none ↦ inr (λ e c. all_at (λ (x : ℕ). x ≢ at) xs e c none)
    ]

module _ (key : ℕ → Key) (old new : ℕ → Value) (at : ℕ) where
  Else : ℕ → Type 0
  Else e = e ≢ at → (new e ≡ old e) × (key e ≢ key at)

  one : (e : ℕ) → Else e → (if is_eq (key_cmp (key e) (key at)) then new at else old e) ≡ new e
  unfolding Else
  one e h = elim (cases_eq e at) [
    | inl same ↦ ap (λ (b : Bool). if b then new at else old e) (test_itself (key e) (key at) (ap key same)) ∙ ap new (sym same)
    | inr other ↦ go (h other) (is_eq (key_cmp (key e) (key at))) refl
  ]
    where
      go : (new e ≡ old e) × (key e ≢ key at) → (b : Bool) → is_eq (key_cmp (key e) (key at)) ≡ b → (if b then new at else old e) ≡ new e
      go p true t = absurd (p.1 (test_same (key e) (key at) t))
      go p false t = sym p.0

  told_now : (es : List ℕ) → AllByRecursion Else es → told_with (key at) (new at) (told_at key old es) ≡ told_at key new es
  told_now [] h = refl
  told_now (e ∷ es) h = ap₂ (λ (w : Value) (rest : List ReadValue). record { key = key e; value = w } ∷ rest) (one e h.0) (told_now es h.1)

  there : (es : List ℕ) → Contains es at → Contains (told_at key old es) (record { key = key at; value = old at })
  there es h =
      let p = place_of es at h in
      contains_at (told_at key old es) p.0 (record { key = key at; value = old at }) (map_at (read_at key old) es p.0 at p.1)

  -- the values at these places are what they were
  told_same : (es : List ℕ) → AllByRecursion (λ (e : ℕ). new e ≡ old e) es → told_at key new es ≡ told_at key old es
  told_same [] h = refl
  told_same (e ∷ es) h = ap₂ (λ (w : Value) (rest : List ReadValue). record { key = key e; value = w } ∷ rest) h.0 (told_same es h.1)

  module _ (prog : Prog) (es : List ℕ) (v : Value) (same : (e : ℕ) → Contains es e → e ≢ at → new e ≡ old e) (follows : Follows prog (told_at key old es) v) where
    unchanged : ((e : ℕ) → Contains es e → new e ≡ old e) → Follows prog (told_at key new es) v
    unchanged all = subst (λ (ts : List ReadValue). Follows prog ts v) (sym (told_same es (all_from (λ (e : ℕ). new e ≡ old e) es all))) follows

    kept : Contains es at → AreApartFrom key at es → KeptBy prog (key at) (old at) (new at) v → Follows prog (told_at key new es) v
    unfolding Else
    kept has apart by =
        subst (λ (ts : List ReadValue). Follows prog ts v) (told_now es (all_from Else es (λ e c other. (same e c other, apart e c other))))
        (by (told_at key old es) (there es has) follows)

    stays : new at ≡ old at → (e : ℕ) → Contains es e → new e ≡ old e
    stays h e c = elim (cases_eq e at) [
      | inl is ↦ ap new is ∙ h ∙ ap old (sym is)
      | inr other ↦ same e c other
    ]

pub reader_law : ReaderLaw
reader_law prog key old new at es v same at_place follows = elim (finds es at) [
  | inr none ↦ unchanged key old new at prog es v same follows (λ e c. same e c (none e c))
  | inl has ↦ elim (at_place has) [
    | inl stay ↦ unchanged key old new at prog es v same follows (stays key old new at prog es v same follows stay)
    | inr by ↦ kept key old new at prog es v same follows has by.0 by.1
  ]
]
