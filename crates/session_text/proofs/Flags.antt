-- Flags that are set.
use Rattle.std.proofs.Common.{◌≡◌, ◌∙◌, ℕ, ◌<◌, inl, inr, ◌⊎◌, zero, suc, Bool, true, false, List, [], ◌∷◌, length, get_or, set, sym, ap, subst, arith, refl}
use Rattle.std.specs.Prelude.{Contains}
use Rattle.std.specs.List.{AllByRecursion}
use Rattle.std.proofs.lemmas.Bool.{cases_eq}
use Rattle.std.proofs.lemmas.List.{get_or-set_same, get_or-set_other, length-set}
use Rattle.session_text.specs.Flags.{with_flags}

abbrev pub IsSet : List Bool → ℕ → Type 0
IsSet flags i = get_or flags i false ≡ true

pub length-with_flags : (flags : List Bool) (es : List ℕ) → length (with_flags flags es) ≡ length flags
length-with_flags flags [] = refl
length-with_flags flags (e ∷ es) = length-with_flags (set flags e true) es ∙ length-set flags e true

-- a set flag stays set when another one is set
set_stays : (flags : List Bool) (e i : ℕ) → e < length flags → IsSet flags i → IsSet (set flags e true) i
set_stays flags e i lt is = elim (cases_eq i e) [
  | inl same ↦ ap (λ (n : ℕ). get_or (set flags e true) n false) same ∙ get_or-set_same flags e true false lt
  | inr other ↦ get_or-set_other flags e i true false other ∙ is
]

all_set : (flags : List Bool) (e : ℕ) (es : List ℕ) → AllByRecursion (λ k. k < length flags) es → AllByRecursion (λ k. k < length (set flags e true)) es
all_set flags e es all = subst (λ (n : ℕ). AllByRecursion (λ k. k < n) es) (sym (length-set flags e true)) all

pub stays : (flags : List Bool) (es : List ℕ) (i : ℕ) → AllByRecursion (λ e. e < length flags) es → IsSet flags i → IsSet (with_flags flags es) i
stays flags [] i all is = is
stays flags (e ∷ es) i all is = stays (set flags e true) es i (all_set flags e es all.1) (set_stays flags e i all.0 is)

-- what a list with one more at the front has
cons_at : (e : ℕ) (es : List ℕ) (i k : ℕ) → k < length (e ∷ es) → get_or (e ∷ es) k i ≡ i → (i ≡ e) ⊎ Contains es i
cons_at e es i zero lt is = inl (sym is)
cons_at e es i (suc k) lt is = inr (k, omega (arith, lt), is)

cons_cases : (e : ℕ) (es : List ℕ) (i : ℕ) → Contains (e ∷ es) i → (i ≡ e) ⊎ Contains es i
cons_cases e es i h = cons_at e es i h.0 h.1 h.2

cons_first : (e : ℕ) (es : List ℕ) → Contains (e ∷ es) e
cons_first e es = (0, omega arith, refl)

cons_later : (e : ℕ) (es : List ℕ) (i : ℕ) → Contains es i → Contains (e ∷ es) i
cons_later e es i h = (suc h.0, omega (arith, h.1), h.2)

pub are_set : (flags : List Bool) (es : List ℕ) (i : ℕ) → AllByRecursion (λ e. e < length flags) es → Contains es i → IsSet (with_flags flags es) i
are_set flags [] i all has = absurd (omega (arith, has.1))
are_set flags (e ∷ es) i all has = elim (cons_cases e es i has) [
  | inl same ↦ stays (set flags e true) es i (all_set flags e es all.1) (ap (λ (n : ℕ). get_or (set flags e true) n false) same ∙ get_or-set_same flags e true false all.0)
  | inr later ↦ are_set (set flags e true) es i (all_set flags e es all.1) later
]

pub only_set : (flags : List Bool) (es : List ℕ) (i : ℕ) → AllByRecursion (λ e. e < length flags) es → IsSet (with_flags flags es) i → IsSet flags i ⊎ Contains es i
only_set flags [] i all is = inl is
only_set flags (e ∷ es) i all is = elim (only_set (set flags e true) es i (all_set flags e es all.1) is) [
  | inl there ↦ elim (cases_eq i e) [
    | inl same ↦ inr (subst (λ (n : ℕ). Contains (e ∷ es) n) (sym same) (cons_first e es))
    | inr other ↦ inl (sym (get_or-set_other flags e i true false other) ∙ there)
  ]
  | inr later ↦ inr (cons_later e es i later)
]
