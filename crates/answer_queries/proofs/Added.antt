-- Steps of the code that collects the diagnostics of a class's declarations.
use Rattle.std.proofs.Common.{◌≡◌, ℕ, zero, suc, ◌≤◌, min, Bool, true, false, ◌&&◌, List, [], ◌∷◌, ◌++◌, length, drop, slice_get, refl, ap, ◌∙◌, arith, append-nil}
use Rattle.mj_tree.specs.Trees.{Name}
use Rattle.mj_tree.specs.declared.tree.Ty.{Ty}
use Rattle.mj_tree.specs.declared.place.Place.TheVariants as places
use Rattle.mj_answer.specs.declared.code.Code.TheVariants.{E201, E202}
use Rattle.mj_answer.specs.declared.diagnostic.Diagnostic.{Diagnostic}
use Rattle.mj_rules.specs.FaultLists.{fault, each_numbered, same_type}
use Rattle.result_bytes.specs.declared.parts.ChainEnd.{ChainEnd}
use Rattle.result_bytes.specs.declared.parts.ChainEnd.TheVariants as ends
use Rattle.answer_queries.specs.Signatures.{same_types}
use Rattle.answer_queries.specs.Told.{superclass_told, cycle_told}
use Rattle.answer_queries.specs.CheckClass.{overridden_class}

-- ---- the end of a chain

abbrev pub end_told : List Name → ChainEnd → List Diagnostic
end_told names end = superclass_told names end ++ cycle_told end

pub alone_undeclared : (names : List Name) (u : Name) → length names ≡ 1 → end_told names (ends.Undeclared u) ≡ fault places.Class E201 ∷ []
alone_undeclared [] u h = absurd (omega (arith, h))
alone_undeclared (c ∷ []) u h = refl
alone_undeclared (c ∷ d ∷ rest) u h = absurd (omega (arith, h))

pub not_alone : (names : List Name) (u : Name) → (length names ≡ 1 → ⊥) → end_told names (ends.Undeclared u) ≡ []
not_alone [] u h = refl
not_alone (c ∷ []) u h = absurd (h refl)
not_alone (c ∷ d ∷ rest) u h = refl

pub repeated_end : (names : List Name) (u : Name) → end_told names (ends.Repeated u) ≡ fault places.Class E202 ∷ []
repeated_end [] u = refl
repeated_end (c ∷ []) u = refl
repeated_end (c ∷ d ∷ rest) u = refl

pub top_end : (names : List Name) → end_told names ends.Top ≡ []
top_end [] = refl
top_end (c ∷ []) = refl
top_end (c ∷ d ∷ rest) = refl

-- ---- numbered diagnostics

unflagged : (faults : ℕ → Bool → Bool → List Diagnostic) (n : ℕ) (xs : List Bool) → each_numbered faults n xs [] ≡ []
unflagged faults n [] = refl
unflagged faults n (x ∷ xs) = refl

ended : (faults : ℕ → Bool → Bool → List Diagnostic) (n i : ℕ) (xs flags : List Bool) → min (length xs) (length flags) ≤ i → each_numbered faults n (drop i xs) (drop i flags) ≡ []
ended faults n zero [] flags h = refl
ended faults n zero (x ∷ xs) [] h = refl
ended faults n zero (x ∷ xs) (b ∷ flags) h = absurd (omega (arith, h))
ended faults n (suc i) [] flags h = refl
ended faults n (suc i) (x ∷ xs) [] h = unflagged faults n (drop i xs)
ended faults n (suc i) (x ∷ xs) (b ∷ flags) h = ended faults n i xs flags (omega (arith, h))

-- the end of the shorter list
pub either_end : (faults : ℕ → Bool → Bool → List Diagnostic) (xs flags : List Bool) (n : ℕ) (old : List Diagnostic) → min (length xs) (length flags) ≤ n → old ++ each_numbered faults n (drop n xs) (drop n flags) ≡ old
either_end faults xs flags n old h = ap (λ (ds : List Diagnostic). old ++ ds) (ended faults n n xs flags h) ∙ append-nil old

-- ---- types and classes

-- types in different numbers aren't the same
pub differ_long : (ts us : List Ty) → (length ts ≡ length us → ⊥) → false ≡ same_types ts us
differ_long [] [] no_way = absurd (no_way refl)
differ_long [] (u ∷ us) no_way = refl
differ_long (t ∷ ts) [] no_way = refl
differ_long (t ∷ ts) (u ∷ us) no_way = both (same_type t u) (differ_long ts us (λ e. no_way (ap suc e)))
  where
    both : (b : Bool) → false ≡ same_types ts us → false ≡ (b && same_types ts us)
    both true h = h
    both false h = refl

-- the second class, if there are methods
pub second_class : (methods chain : List Name) → (methods ≡ [] → ⊥) → overridden_class methods chain ≡ slice_get chain 1
second_class [] chain some = absurd (some refl)
second_class (m ∷ ms) [] some = refl
second_class (m ∷ ms) (c ∷ []) some = refl
second_class (m ∷ ms) (c ∷ s ∷ farther) some = refl
