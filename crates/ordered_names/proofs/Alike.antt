-- Ascending lists with the same elements are equal.
use Rattle.std.proofs.Common.{◌≡◌, List, [], ◌∷◌, refl, sym, ap, ◌∙◌, subst, arith, ◌⊎◌, inl, inr}
use Rattle.std.specs.Prelude.{Contains}
use Rattle.std.specs.List.{AllByRecursion}
use Rattle.std.proofs.lemmas.List.Elements.{Contains-append_left, Contains-append_right, Contains-append_cases, Contains-push, Contains-push_cases, at_from_Contains}
use Rattle.ordered_names.specs.Order.{IsAscendingBy, IsStrictTotalOrder, OneList}

pub nowhere : {X : Type 0} (x : X) → Contains [] x → ⊥
nowhere x h = let a = at_from_Contains [] x h in absurd (omega (arith, a.1))

pub Contains-cases : {X : Type 0} (x : X) (xs : List X) (z : X) → Contains (x ∷ xs) z → (x ≡ z) ⊎ Contains xs z
Contains-cases x xs z h =
    elim (Contains-append_cases (x ∷ []) xs z h) [
      | inl a ↦ elim (Contains-push_cases [] x z a) [ inl b ↦ absurd (nowhere z b) | inr e ↦ inl e ]
      | inr b ↦ inr b
    ]

pub Contains-first : {X : Type 0} (x : X) (xs : List X) → Contains (x ∷ xs) x
Contains-first x xs = Contains-append_left (x ∷ []) xs x (Contains-push [] x)

pub Contains-later : {X : Type 0} (x : X) (xs : List X) (z : X) → Contains xs z → Contains (x ∷ xs) z
Contains-later x xs z h = Contains-append_right (x ∷ []) xs z h

each : {X : Type 0} (P : X → Type 0) (xs : List X) (z : X) → AllByRecursion P xs → Contains xs z → P z
each P [] z all h = absurd (nowhere z h)
each P (x ∷ xs) z all h = elim (Contains-cases x xs z h) [ inl e ↦ subst P e all.0 | inr i ↦ each P xs z all.1 i ]

-- if no two come before each other
pub one_list : (X : Type 0) (B : X → X → Type 0) → ((x y : X) → B x y → B y x → ⊥) → (xs ys : List X) → IsAscendingBy B xs → IsAscendingBy B ys
    → ((z : X) → Contains xs z → Contains ys z) → ((z : X) → Contains ys z → Contains xs z) → xs ≡ ys
one_list X B one [] [] up vp f g = refl
one_list X B one [] (y ∷ ys) up vp f g = absurd (nowhere y (g y (Contains-first y ys)))
one_list X B one (x ∷ xs) [] up vp f g = absurd (nowhere x (f x (Contains-first x xs)))
one_list X B one (x ∷ xs) (y ∷ ys) up vp f g =
    let same = heads (Contains-cases y ys x (f x (Contains-first x xs))) (Contains-cases x xs y (g y (Contains-first y ys))) in
    let tails = one_list X B one xs ys up.1 vp.1
    (λ z h. elim (Contains-cases y ys z (f z (Contains-later x xs z h))) [ inl e ↦ absurd (strict x z (same ∙ e) (each (B x) xs z up.0 h)) | inr i ↦ i ])
    (λ z h. elim (Contains-cases x xs z (g z (Contains-later y ys z h))) [ inl e ↦ absurd (strict y z (sym same ∙ e) (each (B y) ys z vp.0 h)) | inr i ↦ i ]) in
    ap (λ (v : X). v ∷ xs) same ∙ ap (λ (vs : List X). y ∷ vs) tails
  where
    strict : (a b : X) → a ≡ b → B a b → ⊥
    strict a b e h = let r = subst (B a) (sym e) h in one a a r r

    heads : (y ≡ x) ⊎ Contains ys x → (x ≡ y) ⊎ Contains xs y → x ≡ y
    heads (inl e) k = sym e
    heads (inr h) (inl e) = e
    heads (inr h) (inr k) = absurd (one x y (each (B x) xs y up.0 k) (each (B y) ys x vp.0 h))

-- by the names of the elements, or by another key
pub one_list_by : (X Y : Type 0) (key : X → Y) (B : Y → Y → Type 0) → IsStrictTotalOrder B → OneList X (λ x y. B (key x) (key y))
one_list_by X Y key B order = λ xs ys up vp same.
    one_list X (λ x y. B (key x) (key y)) (λ x y h k. order.irreflexive (key x) (order.transitive (key x) (key y) (key x) h k)) xs ys up vp (λ z. (same z).0) (λ z. (same z).1)
