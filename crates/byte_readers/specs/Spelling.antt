-- The spellings that all items are made of. Numbers are big endian.
use Rattle.std.specs.Prelude.{ℕ, List, [], ◌∷◌, ◌++◌, length, Option, Some, None}
use Rattle.std.specs.List.{flat_map}
use Rattle.std.specs.Int.{w16, w32, w64, to_be_bytes}

-- numbers of two, of four and of eight bytes
unfoldable pub two : ℕ → List ℕ
two n = to_be_bytes w16 n

unfoldable pub four : ℕ → List ℕ
four n = to_be_bytes w32 n

unfoldable pub eight : ℕ → List ℕ
eight n = to_be_bytes w64 n

-- one byte of length, and the bytes of the text
abbrev pub name : List ℕ → List ℕ
name text = length text ∷ text

-- 00, or 01 and the item
abbrev pub option : {A : Type 0} → (A → List ℕ) → Option A → List ℕ
option spell None = 0 ∷ []
option spell (Some a) = 1 ∷ spell a

-- the number of items, and the items
abbrev pub list : {A : Type 0} → (A → List ℕ) → List A → List ℕ
list spell items = eight (length items) ++ flat_map spell items
