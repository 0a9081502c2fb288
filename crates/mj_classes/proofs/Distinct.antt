-- Lists of distinct names.
use Rattle.std.proofs.Common.{◌≡◌, suc, ◌≤◌, Bool, true, false, List, [], ◌∷◌, ◌++◌, length, refl, sym, ap, ◌∙◌, subst, arith, ◌⊎◌, inl, inr}
use Rattle.std.specs.Prelude.{Contains}
use Rattle.std.specs.Str.{bytes_eq}
use Rattle.std.proofs.lemmas.Slice.Eq.{bytes_eq-Decides}
use Rattle.std.proofs.lemmas.List.Elements.{Contains-append_left, Contains-append_right, Contains-append_cases, Contains-push, Contains-push_cases, at_from_Contains}
use Rattle.std.proofs.lemmas.Bool.{false≢true}
use Rattle.std.proofs.lemmas.List.Folds.{Any-from_list_any, list_any-from_Any}
use Rattle.mj_tree.specs.Trees.{Name}
use Rattle.mj_classes.specs.Chains.{AreDistinct, is_in}

pub nowhere : (x : Name) → Contains [] x → ⊥
nowhere x h = let a = at_from_Contains [] x h in absurd (omega (arith, a.1))

-- ---- the same as `Contains`, by recursion

abbrev pub In : Name → List Name → Type 0
In x [] = ⊥
In x (y ∷ ys) = (y ≡ x) ⊎ In x ys

without : (x : Name) (ys : List Name) → In x ys → List Name
without x [] h = absurd h
without x (y ∷ ys) (inl e) = ys
without x (y ∷ ys) (inr h) = y ∷ without x ys h

length-without : (x : Name) (ys : List Name) (h : In x ys) → length ys ≡ suc (length (without x ys h))
unfolding without
length-without x [] h = absurd h
length-without x (y ∷ ys) (inl e) = refl
length-without x (y ∷ ys) (inr h) = ap suc (length-without x ys h)

kept : (x z : Name) (ys : List Name) (h : In x ys) → In z ys → (x ≡ z → ⊥) → In z (without x ys h)
unfolding without
kept x z [] h i ne = absurd h
kept x z (y ∷ ys) (inl e) (inl f) ne = absurd (ne (sym e ∙ f))
kept x z (y ∷ ys) (inl e) (inr i) ne = i
kept x z (y ∷ ys) (inr h) (inl f) ne = inl f
kept x z (y ∷ ys) (inr h) (inr i) ne = inr (kept x z ys h i ne)

pub contains_in : (xs : List Name) (x : Name) → Contains xs x → In x xs
contains_in [] x h = nowhere x h
contains_in (y ∷ ys) x h =
    elim (Contains-append_cases (y ∷ []) ys x h) [
      | inl a ↦ elim (Contains-push_cases [] y x a) [ inl b ↦ absurd (nowhere x b) | inr e ↦ inl e ]
      | inr b ↦ inr (contains_in ys x b)
    ]

pub in_contains : (xs : List Name) (x : Name) → In x xs → Contains xs x
in_contains [] x h = absurd h
in_contains (y ∷ ys) x (inl e) = subst (Contains (y ∷ ys)) e (Contains-append_left (y ∷ []) ys y (Contains-push [] y))
in_contains (y ∷ ys) x (inr h) = Contains-append_right (y ∷ []) ys x (in_contains ys x h)

-- distinct names that are all among others are no more than these
pub pigeons : (xs ys : List Name) → AreDistinct xs → ((x : Name) → In x xs → In x ys) → length xs ≤ length ys
pigeons [] ys d h = omega arith
pigeons (x ∷ xs) ys d h =
    let here = h x (inl refl) in
    let rest = pigeons xs (without x ys here) d.1 (λ z i. kept x z ys here (h z (inr i)) (λ e. d.0 (subst (Contains xs) (sym e) (in_contains xs z i)))) in
    omega (arith, rest, length-without x ys here)

pub distinct_push : (xs : List Name) (x : Name) → AreDistinct xs → (Contains xs x → ⊥) → AreDistinct (xs ++ x ∷ [])
distinct_push [] x d n = (λ h. nowhere x h, tt)
distinct_push (y ∷ ys) x d n = (
  λ h. elim (Contains-push_cases ys x y h) [ inl a ↦ d.0 a | inr e ↦ n (subst (Contains (y ∷ ys)) (sym e) (Contains-append_left (y ∷ []) ys y (Contains-push [] y))) ],
  distinct_push ys x d.1 (λ h. n (Contains-append_right (y ∷ []) ys x h)),
)

-- what stands behind distinct names isn't among them
pub fresh_behind : (names : List Name) (u : Name) (rest : List Name) → AreDistinct (names ++ (u ∷ rest)) → Contains names u → ⊥
fresh_behind [] u rest d h = nowhere u h
fresh_behind (x ∷ xs) u rest d h =
    elim (contains_in (x ∷ xs) u h) [
      | inl e ↦ d.0 (subst (Contains (xs ++ (u ∷ rest))) (sym e) (Contains-append_right xs (u ∷ rest) u (in_contains (u ∷ rest) u (inl refl))))
      | inr i ↦ fresh_behind xs u rest d.1 (in_contains xs u i)
    ]

-- ---- the test

pub is_listed : (xs : List Name) (u : Name) → is_in xs u ≡ true → Contains xs u
is_listed xs u e =
    let a = Any-from_list_any (λ (n : Name). bytes_eq n u) xs e in
    let same : a.1 ≡ u = (bytes_eq-Decides a.1 u).0 a.4 in
    subst (Contains xs) same (a.0, a.2, a.3)

pub listed_is : (xs : List Name) (u : Name) → Contains xs u → is_in xs u ≡ true
listed_is xs u h = list_any-from_Any (λ (n : Name). bytes_eq n u) xs (h.0, u, h.1, h.2, (bytes_eq-Decides u u).1 refl)

pub not_listed : (xs : List Name) (u : Name) → is_in xs u ≡ false → Contains xs u → ⊥
not_listed xs u e h = false≢true (sym e ∙ listed_is xs u h)

pub not_in : (xs : List Name) (u : Name) → (Contains xs u → ⊥) → is_in xs u ≡ false
not_in xs u n = go (is_in xs u) refl
  where
    go : (b : Bool) → is_in xs u ≡ b → b ≡ false
    go true e = absurd (n (is_listed xs u e))
    go false e = refl
