-- Names that are admitted where none in front is the same differ, and the other way round.
use Rattle.std.proofs.Common.{◌≡◌, ℕ, Bool, true, false, List, [], ◌∷◌, ◌++◌, refl, sym, ap, subst, ◌∙◌, inl, inr}
use Rattle.std.specs.Prelude.{Contains, not}
use Rattle.std.specs.List.{list_any}
use Rattle.std.specs.Str.{bytes_eq}
use Rattle.std.proofs.lemmas.Slice.Eq.{bytes_eq-Decides}
use Rattle.std.proofs.lemmas.List.Elements.{Contains-append_left, Contains-push, Contains-push_cases}
use Rattle.std.proofs.lemmas.Bool.{or_parts, not-true}
use Rattle.ordered_names.proofs.Orders.{names}
use Rattle.ordered_names.proofs.Alike.{Contains-cases, Contains-first, Contains-later, nowhere}
use Rattle.byte_readers.specs.Lawful.{Admitted}
use Rattle.steps_values.specs.Storable.{AreDistinctNames}
use Rattle.steps_values.specs.Reading.{is_new}

-- a new name isn't among those in front
absent : (front : List (List ℕ)) (x : List ℕ) → list_any (λ other. bytes_eq other x) front ≡ false
    → Contains front x → ⊥
absent [] x e h = nowhere x h
absent (y ∷ front) x e h =
    let f = or_parts (bytes_eq y x) _ e in
    elim (Contains-cases y front x h) [
      | inl same ↦ (let t : true ≡ false = sym ((bytes_eq-Decides y x).1 same) ∙ f.0 in absurd cc)
      | inr later ↦ absent front x f.1 later
    ]

not_equal : (a b : List ℕ) → (a ≡ b → ⊥) → (t : Bool) → bytes_eq a b ≡ t → t ≡ false
not_equal a b h true e = absurd (h ((bytes_eq-Decides a b).0 e))
not_equal a b h false e = refl

-- a name that isn't among those in front is new
is_absent : (front : List (List ℕ)) (x : List ℕ) → (Contains front x → ⊥)
    → list_any (λ other. bytes_eq other x) front ≡ false
is_absent [] x h = refl
is_absent (y ∷ front) x h =
    rw (not_equal y x (λ same. h (subst (λ (z : List ℕ). Contains (y ∷ front) z) same
    (Contains-first y front))) (bytes_eq y x) refl)
    (is_absent front x (λ k. h (Contains-later y front x k)))

no_later : (front : List (List ℕ)) (x : List ℕ) (names : List (List ℕ)) → Contains front x
    → Admitted is_new front names → Contains names x → ⊥
no_later front x [] k h c = nowhere x c
no_later front x (y ∷ names) k h c =
    elim (Contains-cases y names x c) [
      | inl same ↦
          absent front y (not-true _ h.0) (subst (λ (z : List ℕ). Contains front z) (sym same) k)
      | inr later ↦
          no_later (front ++ y ∷ []) x names (Contains-append_left front (y ∷ []) x k) h.1 later
    ]

pub to_distinct : (front names : List (List ℕ)) → Admitted is_new front names → AreDistinctNames names
to_distinct front [] h = tt
to_distinct front (x ∷ names) h = (
  λ c. no_later (front ++ x ∷ []) x names (Contains-push front x) h.1 c,
  to_distinct (front ++ x ∷ []) names h.1,
)

pub from_distinct : (front names : List (List ℕ))
    → ((x : List ℕ) → Contains front x → Contains names x → ⊥) → AreDistinctNames names
    → Admitted is_new front names
from_distinct front [] apart h = tt
from_distinct front (x ∷ names) apart h = (
  ap not (is_absent front x (λ k. apart x k (Contains-first x names))),
  from_distinct (front ++ x ∷ []) names (λ z k c. elim (Contains-push_cases front x z k) [
    | inl before ↦ apart z before (Contains-later x names z c)
    | inr same ↦ h.0 (subst (λ (w : List ℕ). Contains names w) (sym same) c)
  ]) h.1,
)
