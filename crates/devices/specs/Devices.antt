-- What devices take and give.
use Rattle.std.specs.Prelude.{◌≡◌, ℕ, ◌+◌, ◌-◌, ◌<◌, ◌≤◌, ◌^◌, min, List, [], ◌++◌, length, take, drop, Result, Ok, Err}

-- a count of failures, which stays at the greatest number
abbrev pub one_more : ℕ → ℕ
one_more n = min (n + 1) (2 ^ 64 - 1)

-- just a failure is counted
abbrev pub CountsFailures : {A E : Type 0} → Result A E → ℕ → ℕ → Type 0
CountsFailures (Ok a) old new = new ≡ old
CountsFailures (Err e) old new = new ≡ one_more old

-- ---- sinks, by the bytes that they hold

-- this many of the bytes, at least one if there are any
pub record IsPutCount (bytes : List ℕ) (n : ℕ) : Type 0 where
  pub within : n ≤ length bytes
  pub some : 0 < length bytes → 0 < n

-- the first bytes are appended, or none
abbrev pub PutsSome : {E : Type 0} → (List ℕ → Type 0) → (List ℕ → Type 0) → List ℕ → Result ℕ E
    → Type 0
PutsSome old new bytes (Ok n) = (front : List ℕ) → old front → new (front ++ take n bytes)
PutsSome old new bytes (Err e) = (front : List ℕ) → old front → new front

-- a beginning of the bytes is appended
pub record Begins (new : List ℕ → Type 0) (front bytes : List ℕ) : Type 0 where
  pub part : List ℕ
  pub rest : List ℕ
  pub whole : bytes ≡ part ++ rest
  pub holds : new (front ++ part)

-- all of the bytes are appended; else a beginning of them
abbrev pub Puts : {A E : Type 0} → (List ℕ → Type 0) → (List ℕ → Type 0) → List ℕ → Result A E
    → Type 0
Puts old new bytes (Ok a) = (front : List ℕ) → old front → new (front ++ bytes)
Puts old new bytes (Err e) = (front : List ℕ) → old front → Begins new front bytes

-- ---- feeds, by the bytes that they still hold

-- so many of the bytes were moved to the room
pub record MovesBytes (new : List ℕ → Type 0) (bytes before after : List ℕ) (n : ℕ) : Type 0 where
  pub within : n ≤ length bytes
  pub moved : take n after ≡ take n bytes
  pub left : new (drop n bytes)
  pub end : 0 < length before → n ≡ 0 → bytes ≡ []

-- the room has the first of the bytes at its front, and none only at the end; or nothing was moved
abbrev pub TakesSome : {E : Type 0} → (List ℕ → Type 0) → (List ℕ → Type 0) → List ℕ → List ℕ
    → Result ℕ E → Type 0
TakesSome old new before after (Ok n) =
    (n ≤ length before) × ((bytes : List ℕ) → old bytes → MovesBytes new bytes before after n)
TakesSome old new before after (Err e) = (bytes : List ℕ) → old bytes → new bytes
