-- Where a terminal stands among tokens that follow each other.
use Rattle.std.proofs.Common.{◌≡◌, ℕ, zero, suc, ◌+◌, ◌-◌, ◌<◌, ◌≤◌, true, false, List, [], ◌∷◌, ◌++◌, map, drop, filter, slice_get, refl, ap, ◌∙◌, subst, inl, inr, arith}
use Rattle.std.specs.List.{range_with_len}
use Rattle.std.proofs.lemmas.Bool.{cases_lt}
use Rattle.std.proofs.lemmas.List.Elements.{filter-append}
use Rattle.mj_lexer.specs.declared.token.Token.{Token}
use Rattle.mj_lexer.specs.declared.token.Terminal.{Terminal}
use Rattle.mj_expressions.specs.Tokens.{token_kind, kind_at, has, name_at}
use Rattle.mj_parser.specs.Rows.{row_size, InRow}
use Rattle.mj_parser.specs.Locations.{all_of}
use Rattle.place_laws.specs.Parts.{row_parts}

-- something holds of each place from i to before j
pub record Along (P : ℕ → Type 0) (i j : ℕ) : Type 0 where
  pub each : (at : ℕ) → i ≤ at → at < j → P at

pub along_none : {P : ℕ → Type 0} (i j : ℕ) → j ≤ i → Along P i j
along_none i j past = record { each = λ at low high. absurd (omega arith) }

pub along_one : {P : ℕ → Type 0} (i : ℕ) → P i → Along P i (i + 1)
along_one {P = P} i p = record { each = λ at low high. let same : i ≡ at = omega arith in subst P same p }

pub along_map : {P Q : ℕ → Type 0} {i j : ℕ} → ((at : ℕ) → P at → Q at) → Along P i j → Along Q i j
along_map f a = record { each = λ at low high. f at (a.each at low high) }

pub upto : {P : ℕ → Type 0} {i j k : ℕ} → Along P i j → k ≤ j → Along P i k
upto a le = record { each = λ at low high. a.each at low (omega arith) }

pub join : {P : ℕ → Type 0} {i j m k : ℕ} → Along P i j → Along P m k → m ≤ j → Along P i k
join {j = j} a b le = record { each = λ at low high. elim (cases_lt at j) [ inl lt ↦ a.each at low lt | inr ge ↦ b.each at (omega arith) high ] }

pub row_along : {P : ℕ → Type 0} {A : Type 0} (Is : ℕ → A → Type 0) (size : A → ℕ) → ((i : ℕ) (x : A) → Is i x → Along P i (i + size x)) → (i : ℕ) (xs : List A) → InRow Is size i xs → Along P i (i + row_size size xs)
row_along Is size one i [] h = along_none i (i + 0) (omega arith)
row_along Is size one i (x ∷ xs) h = upto (join (one i x h.0) (row_along Is size one (i + size x) xs h.1) (omega arith)) (omega arith)

-- the places where a terminal stands among n tokens from i on
abbrev pub run : List Token → Terminal → ℕ → ℕ → List ℕ
run ts t i n = filter (λ at. has ts at t) (range_with_len i n)

range_split : (i n k : ℕ) → range_with_len i (n + k) ≡ range_with_len i n ++ range_with_len (i + n) k
range_split i zero k =
    let a : zero + k ≡ k = omega arith in
    let b : i + zero ≡ i = omega arith in
    rw (a, b) refl
range_split i (suc n) k =
    let a : suc n + k ≡ suc (n + k) = omega arith in
    let b : i + suc n ≡ i + 1 + n = omega arith in
    rw (a, b, range_split (i + 1) n k) refl

module _ (ts : List Token) (t : Terminal) where
  pub run_split : (i n k : ℕ) → run ts t i (n + k) ≡ run ts t i n ++ run ts t (i + n) k
  run_split i n k = ap (filter (λ at. has ts at t)) (range_split i n k) ∙ filter-append (λ at. has ts at t) (range_with_len i n) (range_with_len (i + n) k)

  pub all_run : (i j n : ℕ) → j ≡ i + n → all_of ts t i j ≡ run ts t i n
  all_run i j n e = let same : j - i ≡ n = omega arith in rw same refl

  abbrev pub Lacks : ℕ → ℕ → Type 0
  Lacks i j = Along (λ at. has ts at t ≡ false) i j

  pub lacks_run : (i n : ℕ) → Lacks i (i + n) → run ts t i n ≡ []
  lacks_run i zero a = refl
  lacks_run i (suc n) a = rw (a.each i (omega arith) (omega arith), lacks_run (i + 1) n (record { each = λ at low high. a.each at (omega arith) (omega arith) })) refl

  pub front_run : (i n : ℕ) → has ts i t ≡ true → 0 < n → Lacks (i + 1) (i + n) → run ts t i n ≡ i ∷ []
  front_run i zero here some a = absurd (omega arith)
  front_run i (suc n) here some a = rw (here, lacks_run (i + 1) n (record { each = λ at low high. a.each at low (omega arith) })) refl

  pub run_join : (i n j k w : ℕ) (l r : List ℕ) → j ≡ i + n → w ≡ n + k → run ts t i n ≡ l → run ts t j k ≡ r → run ts t i w ≡ l ++ r
  run_join i n j k w l r at width a b = rw (width, run_split i n k, ← at, a, b) refl

  pub row_run : {A : Type 0} (Is : ℕ → A → Type 0) (size : A → ℕ) (spot : ℕ → A → ℕ) → ((i : ℕ) (x : A) → Is i x → run ts t i (size x) ≡ spot i x ∷ []) → (i : ℕ) (xs : List A) → InRow Is size i xs → run ts t i (row_size size xs) ≡ map (λ p. spot p.at p.item) (row_parts size i xs)
  row_run Is size spot one i [] h = refl
  row_run Is size spot one i (x ∷ xs) h = rw (run_split i (size x) (row_size size xs), one i x h.0, row_run Is size spot one (i + size x) xs h.1) refl

-- tokens from a place on
get_drop : {A : Type 0} (i : ℕ) (xs : List A) (j : ℕ) → slice_get (drop i xs) j ≡ slice_get xs (i + j)
get_drop zero xs j = let same : zero + j ≡ j = omega arith in rw same refl
get_drop (suc i) [] j = refl
get_drop (suc i) (x ∷ xs) j = let same : suc i + j ≡ suc (i + j) = omega arith in rw same (get_drop i xs j)

kind_drop : (ts : List Token) (i j : ℕ) → kind_at (drop i ts) j ≡ kind_at ts (i + j)
kind_drop ts i j = ap token_kind (get_drop i ts j)

pub name_drop : (ts : List Token) (i j : ℕ) → name_at (drop i ts) j ≡ name_at ts (i + j)
unfolding name_at
name_drop ts i j = rw (kind_drop ts i j) refl

pub along_drop : {P Q : ℕ → Type 0} (i a b : ℕ) → ((j : ℕ) → P j → Q (i + j)) → Along P a b → Along Q (i + a) (i + b)
along_drop {Q = Q} i a b f p = record { each = λ at low high. let same : i + (at - i) ≡ at = omega arith in subst Q same (f (at - i) (p.each (at - i) (omega arith) (omega arith))) }
