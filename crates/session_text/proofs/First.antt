-- The first of a list that passes a test.
use Rattle.std.proofs.Common.{◌≡◌, ◌∙◌, ℕ, ◌<◌, ◌+◌, inl, inr, sym, Bool, true, false, List, [], ◌∷◌, Some, None, cond, length, get_or, position, refl, ap, arith}
use Rattle.std.specs.Prelude.{nat_lt}
use Rattle.std.specs.List.{position_or_len}
use Rattle.std.proofs.lemmas.Bool.{lt-ltb, le-ltb, cases_eq}
use Rattle.std.proofs.lemmas.List.{get_or_read}
use Rattle.std.proofs.lemmas.List.Sums.{position_or_len_is}

-- none of those in front of the index n passes
abbrev pub NoneBefore : {X : Type 0} → (X → Bool) → List X → ℕ → Type 0
NoneBefore {X} test xs n = (k : ℕ) (d : X) → k < n → test (get_or xs k d) ≡ false

pub first_here : {X : Type 0} (test : X → Bool) (xs : List X) (n : ℕ) (x : X) → n < length xs → x ≡ get_or xs n x → NoneBefore test xs n → test x ≡ true → position test xs ≡ Some n
first_here test xs n x lt is none pass =
    let at : position_or_len test xs ≡ n = position_or_len_is test xs n x (omega arith) (λ k l. none k x l) (λ _. ap test (sym is) ∙ pass) in
    ap (λ k. cond (nat_lt k (length xs)) (Some k) None) at ∙ ap (λ b. cond b (Some n) None) (lt-ltb n (length xs) lt)

pub none_here : {X : Type 0} (test : X → Bool) (xs : List X) → NoneBefore test xs (length xs) → position test xs ≡ None
none_here test [] none = refl
none_here test (x ∷ xs) none =
    let n = length (x ∷ xs) in
    let at : position_or_len test (x ∷ xs) ≡ n = position_or_len_is test (x ∷ xs) n x (omega arith) (λ k l. none k x l) (λ l. absurd (omega arith)) in
    ap (λ k. cond (nat_lt k n) (Some k) None) at ∙ ap (λ b. cond b (Some n) None) (le-ltb n n (omega arith))

-- one more that doesn't pass
pub none_more : {X : Type 0} (test : X → Bool) (xs : List X) (n : ℕ) (x : X) → n < length xs → x ≡ get_or xs n x → NoneBefore test xs n → test x ≡ false → NoneBefore test xs (n + 1)
none_more test xs n x lt is none fails k d l =
    elim (cases_eq k n) [
      | inl same ↦ ap (λ i. test (get_or xs i d)) same ∙ (ap test (sym (get_or_read xs n x lt is d)) ∙ fails)
      | inr other ↦ none k d (omega (arith, l, other))
    ]
