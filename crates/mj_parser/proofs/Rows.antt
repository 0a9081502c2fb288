-- Items that are read one after the other.
use Rattle.std.proofs.Common.{◌≡◌, ℕ, zero, suc, ◌+◌, ◌<◌, ◌≤◌, Bool, true, false, List, [], ◌∷◌, Some, refl, subst, arith, inl, inr}
use Rattle.mj_parser.specs.Rows.{row_size, row_height, InRow}
use Rattle.mj_expressions.specs.Steps.{PartParser, items_from}
use Rattle.mj_expressions.proofs.Binds.{bind_some, if_some, some_is}

-- a part that was read
pub record PartSound {A : Type 0} (Is : ℕ → A → Type 0) (size height : A → ℕ) (most i : ℕ) (x : A × ℕ) : Type 0 where
  pub is : Is i x.0
  pub at : x.1 ≡ i + size x.0
  pub low : height x.0 ≤ most

-- parts that were read
pub record RowSound {A : Type 0} (Is : ℕ → A → Type 0) (size height : A → ℕ) (most : ℕ) (goes_on : ℕ → Bool) (i : ℕ) (x : List A × ℕ) : Type 0 where
  pub are : InRow Is size i x.0
  pub at : x.1 ≡ i + row_size size x.0
  pub low : row_height height x.0 ≤ most
  pub ends : goes_on x.1 ≡ false

module _ {A : Type 0} (Is : ℕ → A → Type 0) (size height : A → ℕ) (most : ℕ) (part : PartParser A) (goes_on : ℕ → Bool) where
  pub row_found : ((i : ℕ) (x : A × ℕ) → goes_on i ≡ true → part i ≡ Some x → PartSound Is size height most i x) → (gas i : ℕ) (x : List A × ℕ) → items_from gas part goes_on i ≡ Some x → RowSound Is size height most goes_on i x
  unfolding items_from
  row_found sound zero i x e = absurd cc
  row_found sound (suc gas) i x e =
      elim (if_some (goes_on i) _ _ x e) [
        | inl a ↦
            let b = bind_some (part i) _ x a.1 in
            let c = bind_some (items_from gas part goes_on b.0.1) _ x b.2 in
            let s = sound i b.0 a.0 b.1 in
            let t = row_found sound gas b.0.1 c.0 c.1 in
            let low = s.low in
            let low2 = t.low in
            let place = s.at in
            let at2 = t.at in
            subst (RowSound Is size height most goes_on i) (some_is _ x c.2) (record {
              are = (s.is, subst (λ (k : ℕ). InRow Is size k c.0.0) s.at t.are);
              at = omega arith;
              low = omega arith;
              ends = t.ends;
            })
        | inr a ↦ subst (RowSound Is size height most goes_on i) (some_is _ x a.1) (record { are = tt; at = omega arith; low = omega arith; ends = a.0 })
      ]

  pub row_again : (end : ℕ) → ((i : ℕ) (x : A) → Is i x → height x ≤ most → part i ≡ Some (x, i + size x)) → ((i : ℕ) (x : A) → Is i x → goes_on i ≡ true) → ((x : A) → 0 < size x) → (xs : List A) (gas i j : ℕ) → InRow Is size i xs → row_height height xs ≤ most → j ≡ i + row_size size xs
      → goes_on j ≡ false → j ≤ end → end < gas + i → items_from gas part goes_on i ≡ Some (xs, j)
  unfolding items_from
  row_again end again begins some xs zero i j h low at e within enough = absurd (omega arith)
  row_again end again begins some [] (suc gas) i j h low at e within enough =
      let same : i ≡ j = omega arith in
      rw (items_from, same, e) refl
  row_again end again begins some (x ∷ xs) (suc gas) i j h low at e within enough =
      let positive = some x in
      rw (items_from, begins i x h.0, again i x h.0 (omega arith), row_again end again begins some xs gas (i + size x) j h.1 (omega arith) (omega arith) e within (omega arith)) refl
