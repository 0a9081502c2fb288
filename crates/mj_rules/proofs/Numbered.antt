-- Diagnostics in numbered lists.
use Rattle.std.proofs.Common.{◌≡◌, ℕ, zero, suc, ◌+◌, Bool, true, false, List, [], ◌∷◌, slice_get, Some, Contains, refl, sym, subst, arith, inl, inr}
use Rattle.std.proofs.lemmas.Option.{none-some, same_Some}
use Rattle.std.proofs.lemmas.List.Elements.{Contains-append_left, Contains-append_right, Contains-append_cases}
use Rattle.mj_tree.specs.declared.place.Place.{Place}
use Rattle.mj_answer.specs.declared.code.Code.{Code}
use Rattle.mj_answer.specs.declared.diagnostic.Diagnostic.{Diagnostic}
use Rattle.ordered_names.proofs.Alike.{Contains-cases, Contains-first, nowhere}
use Rattle.mj_rules.specs.FaultLists.{fault, when_fault, each_numbered}

pub only : {X : Type 0} (x y : X) → Contains (x ∷ []) y → x ≡ y
only x y h = elim (Contains-cases x [] y h) [ inl e ↦ e | inr n ↦ absurd (nowhere y n) ]

pub from_when : (b : Bool) (place : Place) (code : Code) (d : Diagnostic) → Contains (when_fault b place code) d → (b ≡ true) × (fault place code ≡ d)
from_when true place code d h = (refl, only _ d h)
from_when false place code d h = absurd (nowhere d h)

pub to_when : (b : Bool) (place : Place) (code : Code) → b ≡ true → Contains (when_fault b place code) (fault place code)
to_when true place code e = Contains-first _ []
to_when false place code e = absurd (cc)

-- a diagnostic of the item at a place
pub record IsNumbered {A : Type 0} (faults : ℕ → Bool → A → List Diagnostic) (n : ℕ) (xs : List A) (flags : List Bool) (d : Diagnostic) : Type 0 where
  pub i : ℕ
  pub flag : Bool
  pub item : A
  pub here : slice_get xs i ≡ Some item
  pub flagged : slice_get flags i ≡ Some flag
  pub found : Contains (faults (n + i) flag item) d

pub from_each : {A : Type 0} (faults : ℕ → Bool → A → List Diagnostic) (n : ℕ) (xs : List A) (flags : List Bool) (d : Diagnostic) → Contains (each_numbered faults n xs flags) d → IsNumbered faults n xs flags d
from_each faults n [] flags d h = absurd (nowhere d h)
from_each faults n (x ∷ xs) [] d h = absurd (nowhere d h)
from_each {A} faults n (x ∷ xs) (flag ∷ flags) d h =
    elim (Contains-append_cases (faults n flag x) (each_numbered faults (n + 1) xs flags) d h) [
      | inl a ↦
          let same : n ≡ n + 0 = omega arith in
          record { i = 0; flag = flag; item = x; here = refl; flagged = refl; found = subst (λ k. Contains (faults k flag x) d) same a }
      | inr b ↦ later (from_each faults (n + 1) xs flags d b)
    ]
  where
    later : IsNumbered faults (n + 1) xs flags d → IsNumbered faults n (x ∷ xs) (flag ∷ flags) d
    later r =
        let same : n + 1 + r.i ≡ n + suc r.i = omega arith in
        record { i = suc r.i; flag = r.flag; item = r.item; here = r.here; flagged = r.flagged; found = subst (λ k. Contains (faults k r.flag r.item) d) same r.found }

pub to_each : {A : Type 0} (faults : ℕ → Bool → A → List Diagnostic) (n : ℕ) (xs : List A) (flags : List Bool) (d : Diagnostic) (i : ℕ) (flag : Bool) (x : A)
    → slice_get xs i ≡ Some x → slice_get flags i ≡ Some flag → Contains (faults (n + i) flag x) d → Contains (each_numbered faults n xs flags) d
to_each faults n [] flags d i flag x e f h = absurd (none-some x e)
to_each faults n (y ∷ xs) [] d i flag x e f h = absurd (none-some flag f)
to_each faults n (y ∷ xs) (b ∷ flags) d zero flag x e f h =
    let same : n + 0 ≡ n = omega arith in
    let one : Contains (faults n flag x) d = subst (λ k. Contains (faults k flag x) d) same h in
    let two : Contains (faults n b x) d = subst (λ v. Contains (faults n v x) d) (sym (same_Some b flag f)) one in
    Contains-append_left (faults n b y) _ d (subst (λ v. Contains (faults n b v) d) (sym (same_Some y x e)) two)
to_each faults n (y ∷ xs) (b ∷ flags) d (suc i) flag x e f h =
    let same : n + suc i ≡ n + 1 + i = omega arith in
    Contains-append_right (faults n b y) _ d (to_each faults (n + 1) xs flags d i flag x e f (subst (λ k. Contains (faults k flag x) d) same h))

-- the same if the numbers begin with 0
pub record IsFlagged {A : Type 0} (faults : ℕ → Bool → A → List Diagnostic) (xs : List A) (flags : List Bool) (d : Diagnostic) : Type 0 where
  pub i : ℕ
  pub flag : Bool
  pub item : A
  pub here : slice_get xs i ≡ Some item
  pub flagged : slice_get flags i ≡ Some flag
  pub found : Contains (faults i flag item) d

pub from_all : {A : Type 0} (faults : ℕ → Bool → A → List Diagnostic) (xs : List A) (flags : List Bool) (d : Diagnostic) → Contains (each_numbered faults 0 xs flags) d → IsFlagged faults xs flags d
from_all {A} faults xs flags d h = first (from_each faults 0 xs flags d h)
  where
    first : IsNumbered faults 0 xs flags d → IsFlagged faults xs flags d
    first r =
        let same : 0 + r.i ≡ r.i = omega arith in
        record { i = r.i; flag = r.flag; item = r.item; here = r.here; flagged = r.flagged; found = subst (λ k. Contains (faults k r.flag r.item) d) same r.found }

pub to_all : {A : Type 0} (faults : ℕ → Bool → A → List Diagnostic) (xs : List A) (flags : List Bool) (d : Diagnostic) (i : ℕ) (flag : Bool) (x : A)
    → slice_get xs i ≡ Some x → slice_get flags i ≡ Some flag → Contains (faults i flag x) d → Contains (each_numbered faults 0 xs flags) d
to_all faults xs flags d i flag x e f h =
    let same : i ≡ 0 + i = omega arith in
    to_each faults 0 xs flags d i flag x e f (subst (λ k. Contains (faults k flag x) d) same h)
