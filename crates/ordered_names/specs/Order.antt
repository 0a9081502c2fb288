-- The order of names, lists in ascending order, and what makes an order strict and total.
use Rattle.std.specs.Prelude.{◌≡◌, ℕ, ◌↔◌, ◌⊎◌, List, [], ◌∷◌, Contains}
use Rattle.std.specs.List.{AllByRecursion}
use Rattle.std.specs.Ordering.{nat_cmp}
use Rattle.std.specs.Cmp.Lexicographic.{slice_cmp}
use Rattle.std.specs.declared.cmp.Ordering.TheVariants.{Less}

-- names are ordered by their bytes
abbrev pub NameBefore : List ℕ → List ℕ → Type 0
NameBefore m n = slice_cmp nat_cmp m n ≡ Less

-- each comes before all later ones
abbrev pub IsAscendingBy : {X : Type 0} → (X → X → Type 0) → List X → Type 0
IsAscendingBy B [] = Unit {0}
IsAscendingBy B (x ∷ xs) = AllByRecursion (B x) xs × IsAscendingBy B xs

-- ascending by the names that the elements have
abbrev pub IsAscendingByName : {X : Type 0} → (X → List ℕ) → List X → Type 0
IsAscendingByName name_of xs = IsAscendingBy (λ x y. NameBefore (name_of x) (name_of y)) xs

-- of two that differ, exactly one comes before the other, and the order is transitive
pub record IsStrictTotalOrder {X : Type 0} (B : X → X → Type 0) : Type 0 where
  pub irreflexive : (x : X) → B x x → ⊥
  pub transitive : (x y z : X) → B x y → B y z → B x z
  pub total : (x y : X) → B x y ⊎ ((x ≡ y) ⊎ B y x)

-- ascending lists with the same elements are equal
abbrev pub OneList : (X : Type 0) → (X → X → Type 0) → Type 0
OneList X B =
    (xs ys : List X) → IsAscendingBy B xs → IsAscendingBy B ys
    → ((x : X) → Contains xs x ↔ Contains ys x) → xs ≡ ys

abbrev pub OneListByName : (X : Type 0) → (X → List ℕ) → Type 0
OneListByName X name_of = OneList X (λ x y. NameBefore (name_of x) (name_of y))
