-- The order of names is strict and total, and so are orders that are made of strict and total ones.
use Rattle.std.proofs.Common.{◌≡◌, ℕ, ◌<◌, List, Ordering, refl, sym, ap, ◌∙◌, subst, arith, ◌⊎◌, inl, inr}
use Rattle.std.specs.Ordering.{nat_cmp, ordering_reverse, is_eq}
use Rattle.std.specs.Cmp.Lexicographic.{slice_cmp}
use Rattle.std.specs.declared.cmp.Ordering.TheVariants.{Less, Equal, Greater}
use Rattle.std.proofs.lemmas.Map.Text.{is_eq-slice_cmp}
use Rattle.std.proofs.lemmas.Slice.Eq.{bytes_eq-Decides}
use Rattle.std.proofs.lemmas.Cmp.{nat_list_cmp_total, tied_itself}
use Rattle.std.proofs.lemmas.Bool.{cases_order}
use Rattle.ordered_names.specs.Order.{NameBefore, IsStrictTotalOrder}

-- by the first part, then by the second
abbrev pub Lexicographic : {X Y : Type 0} → (X → X → Type 0) → (Y → Y → Type 0) → X × Y → X × Y → Type 0
Lexicographic B C p q = B p.0 q.0 ⊎ ((p.0 ≡ q.0) × C p.1 q.1)

pub lexicographic : {X Y : Type 0} (B : X → X → Type 0) (C : Y → Y → Type 0) → IsStrictTotalOrder B → IsStrictTotalOrder C → IsStrictTotalOrder (Lexicographic B C)
lexicographic {X} {Y} B C b c = record {
  irreflexive = λ x h. elim h [ inl k ↦ b.irreflexive x.0 k | inr k ↦ c.irreflexive x.1 k.1 ];
  transitive = λ x y z. trans x y z;
  total = λ x y. cases x y (b.total x.0 y.0) (c.total x.1 y.1);
}
  where
    trans : (x y z : X × Y) → Lexicographic B C x y → Lexicographic B C y z → Lexicographic B C x z
    trans x y z (inl h) (inl k) = inl (b.transitive x.0 y.0 z.0 h k)
    trans x y z (inl h) (inr k) = inl (subst (B x.0) k.0 h)
    trans x y z (inr h) (inl k) = inl (subst (λ (v : X). B v z.0) (sym h.0) k)
    trans x y z (inr h) (inr k) = inr (h.0 ∙ k.0, c.transitive x.1 y.1 z.1 h.1 k.1)

    cases : (x y : X × Y) → B x.0 y.0 ⊎ ((x.0 ≡ y.0) ⊎ B y.0 x.0) → C x.1 y.1 ⊎ ((x.1 ≡ y.1) ⊎ C y.1 x.1)
        → Lexicographic B C x y ⊎ ((x ≡ y) ⊎ Lexicographic B C y x)
    cases x y (inl h) k = inl (inl h)
    cases x y (inr (inr h)) k = inr (inr (inl h))
    cases x y (inr (inl e)) (inl k) = inl (inr (e, k))
    cases x y (inr (inl e)) (inr (inr k)) = inr (inr (inr (sym e, k)))
    cases x y (inr (inl e)) (inr (inl f)) = inr (inl (ap (λ (v : X). let p : X × Y = (v, x.1) in p) e ∙ ap (λ (w : Y). let p : X × Y = (y.0, w) in p) f))

-- by a key that no two share
pub by_key : {A X : Type 0} (key : A → X) (B : X → X → Type 0) → ((a b : A) → key a ≡ key b → a ≡ b) → IsStrictTotalOrder B → IsStrictTotalOrder (λ a b. B (key a) (key b))
by_key {A} key B injective order = record {
  irreflexive = λ a. order.irreflexive (key a);
  transitive = λ a b c. order.transitive (key a) (key b) (key c);
  total = λ a b. elim (order.total (key a) (key b)) [ inl h ↦ inl h | inr c ↦ elim c [ inl e ↦ inr (inl (injective a b e)) | inr h ↦ inr (inr h) ] ];
}

pub numbers : IsStrictTotalOrder (λ (m n : ℕ). m < n)
numbers = record {
  irreflexive = λ n h. absurd (omega arith);
  transitive = λ l m n h k. omega arith;
  total = λ m n. elim (cases_order m n) [ inl e ↦ inr (inl e) | inr c ↦ elim c [ inl h ↦ inl h | inr h ↦ inr (inr h) ] ];
}

pub equal_names : (m n : List ℕ) → slice_cmp nat_cmp m n ≡ Equal → m ≡ n
equal_names m n e = (bytes_eq-Decides m n).0 (sym (is_eq-slice_cmp m n) ∙ ap is_eq e)

pub names : IsStrictTotalOrder NameBefore
names = record {
  irreflexive = λ m h. let e = tied_itself nat_list_cmp_total m in let no : Less ≡ Equal = sym h ∙ e in absurd cc;
  transitive = λ l m n. nat_list_cmp_total.trans l m n;
  total = λ m n. cases m n (slice_cmp nat_cmp m n) refl;
}
  where
    cases : (m n : List ℕ) (o : Ordering) → slice_cmp nat_cmp m n ≡ o → NameBefore m n ⊎ ((m ≡ n) ⊎ NameBefore n m)
    cases m n Less e = inl e
    cases m n Equal e = inr (inl (equal_names m n e))
    cases m n Greater e = inr (inr (nat_list_cmp_total.antisymm n m ∙ ap ordering_reverse e))
