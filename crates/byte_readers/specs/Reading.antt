-- Reading from left to right, with the first breach that is met.
use Rattle.std.specs.Prelude.{◌≡◌, ℕ, zero, suc, Bool, true, List, [], ◌∷◌, ◌++◌, length, take, drop, Option, Some, None, Result, Ok, Err, nat_lt, ◌==◌, if◌then◌else◌}
use Rattle.std.specs.Borrow.{Bor}
use Rattle.std.specs.Str.{is_utf8}
use Rattle.std.specs.Int.{Width, w16, w32, w64, byte_len, from_be_bytes}
use Rattle.byte_readers.specs.declared.breach.Breach.{Breach}
use Rattle.byte_readers.specs.declared.breach.Breach.TheVariants.{Short, NotCanonical}
use Rattle.byte_readers.specs.declared.breach.ReadError.{ReadError}
use Rattle.byte_readers.specs.declared.breach.ReadError.TheVariants as errors

infixl 10 ◌>>=◌
abbrev pub ◌>>=◌ : {A B : Type 0} → Result A Breach → (A → Result B Breach) → Result B Breach
(Ok x) >>= f = f x
(Err e) >>= f = Err e

-- What a reader returned, its item seen by view, is what reading gives, unless memory ran out.
abbrev pub Fails : {Y : Type 0} → ReadError → Result Y Breach → Type 0
Fails errors.Memory read = Unit {0}
Fails (errors.Breach b) read = read ≡ Err b

abbrev pub Decodes : {X Y : Type 0} → (X → Y) → Result (X × Bor (List ℕ)) ReadError
    → Result (Y × List ℕ) Breach → Type 0
Decodes view (Ok x) read = read ≡ Ok (view x.0, x.1.now)
Decodes view (Err e) read = Fails e read

-- A reader answers a value and the bytes after it.
abbrev pub Decoder : Type 0 → Type 0
Decoder A = List ℕ → Result (A × List ℕ) Breach

-- where it isn't canonical: as many bytes are left as there are from the item's first
abbrev pub not_canonical : {A : Type 0} → List ℕ → Result A Breach
not_canonical bytes = Err (NotCanonical (length bytes))

abbrev pub byte_at : Decoder ℕ
byte_at [] = Err Short
byte_at (b ∷ rest) = Ok (b, rest)

abbrev pub number_at : Width → Decoder ℕ
number_at w bytes =
    if nat_lt (length bytes) (byte_len w)
    then Err Short else Ok (from_be_bytes w (take (byte_len w) bytes), drop (byte_len w) bytes)

unfoldable pub two_at : Decoder ℕ
two_at bytes = number_at w16 bytes

unfoldable pub four_at : Decoder ℕ
four_at bytes = number_at w32 bytes

unfoldable pub eight_at : Decoder ℕ
eight_at bytes = number_at w64 bytes

-- one behind the other
abbrev pub pair_at : {A B : Type 0} → Decoder A → Decoder B → Decoder (A × B)
pair_at first second bytes = first bytes >>= λ a. second a.1 >>= λ b. Ok ((a.0, b.0), b.1)

-- what is made of an item
abbrev pub made_at : {A B : Type 0} → (A → B) → Decoder A → Decoder B
made_at make part bytes = part bytes >>= λ a. Ok (make a.0, a.1)

-- 0, or 1 and an item
unfoldable pub option_at : {A : Type 0} → Decoder A → Decoder (Option A)
option_at part [] = Err Short
option_at part (zero ∷ rest) = Ok (None, rest)
option_at part (suc zero ∷ rest) = part rest >>= λ a. Ok (Some a.0, a.1)
option_at part (suc (suc b) ∷ rest) = not_canonical (suc (suc b) ∷ rest)

unfoldable pub name_at : Decoder (List ℕ)
name_at bytes = do
  n ← byte_at bytes
  if n.0 == 0 then not_canonical bytes else
      (if nat_lt (length n.1) n.0 then Err Short else
      (if is_utf8 (take n.0 n.1) then Ok (take n.0 n.1, drop n.0 n.1) else not_canonical bytes))

-- items that are admitted, each after the ones before it; an item that isn't is refused from its
-- first byte on
unfoldable pub list_from : {A : Type 0} → Decoder A → (List A → A → Bool) → List A → ℕ
    → Decoder (List A)
list_from part admits front zero bytes = Ok (front, bytes)
list_from part admits front (suc n) bytes = do
  item ← part bytes
  if admits front item.0 then list_from part admits (front ++ item.0 ∷ []) n item.1
      else not_canonical bytes

unfoldable pub list_at : {A : Type 0} → Decoder A → (List A → A → Bool) → Decoder (List A)
list_at part admits bytes = do
  n ← eight_at bytes
  list_from part admits [] n.0 n.1

abbrev pub any : {A : Type 0} → List A → A → Bool
any front item = true
