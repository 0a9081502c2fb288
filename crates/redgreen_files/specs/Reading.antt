-- Reading a session file from left to right, with the first breach that is met.
use Rattle.std.specs.Prelude.{◌≡◌, ℕ, zero, suc, Bool, true, false, ◌&&◌, List, [], ◌∷◌, ◌++◌, length, take, drop, Option, Some, None, Result, Ok, Err, nat_lt, nat_le, bytes_eq, ◌-◌, if◌then◌else◌}
use Rattle.sha2.specs.Sha256.{sha256}
use Rattle.byte_readers.specs.declared.breach.Breach.{Breach}
use Rattle.byte_readers.specs.Reading.{byte_at, eight_at}
use Rattle.redgreen_sessions.specs.declared.record.Mark.{Mark}
use Rattle.redgreen_sessions.specs.declared.record.Mark.TheVariants.{Input, Green, Executed}
use Rattle.redgreen_files.specs.declared.fault.FileFault.{FileFault}
use Rattle.redgreen_files.specs.declared.fault.FileFault.TheVariants.{BadMagic, Version, Truncated, NoRoot, RootLength, KeyLength, UnknownMark, BadDigest, Trailing, Device, OutOfMemory}
use Rattle.redgreen_files.specs.Spelling.{RecordValue, FileValue, magic, version}

infixl 10 ◌>>=◌
abbrev pub ◌>>=◌ : {A B : Type 0} → Result A FileFault → (A → Result B FileFault) → Result B FileFault
(Ok x) >>= f = f x
(Err e) >>= f = Err e

-- A reader answers a value and the bytes after it.
abbrev pub Parser : Type 0 → Type 0
Parser A = List ℕ → Result (A × List ℕ) FileFault

-- the answer, unless memory ran out or the device failed
abbrev pub IsUnlessStopped : {A : Type 0} → Result A FileFault → Result A FileFault → Type 0
IsUnlessStopped (Err OutOfMemory) answer = Unit {0}
IsUnlessStopped (Err Device) answer = Unit {0}
IsUnlessStopped result answer = result ≡ answer

-- ---- parts

abbrev pub or_truncated : {A : Type 0} → Result A Breach → Result A FileFault
or_truncated (Ok x) = Ok x
or_truncated (Err breach) = Err Truncated

-- a test, else a fault
abbrev pub tested : Bool → FileFault → Result (Unit {0}) FileFault
tested true fault = Ok tt
tested false fault = Err fault

-- a number of eight bytes
abbrev pub number_at : Parser ℕ
number_at bytes = or_truncated (eight_at bytes)

-- so many bytes
unfoldable pub slice_at : ℕ → Parser (List ℕ)
slice_at n bytes = if nat_lt (length bytes) n then Err Truncated else Ok (take n bytes, drop n bytes)

-- just this text
unfoldable pub exact_at : List ℕ → FileFault → FileFault → Parser (Unit {0})
exact_at text short other bytes =
    if nat_lt (length bytes) (length text) then Err short
    else (if bytes_eq (take (length text) bytes) text then Ok (tt, drop (length text) bytes) else Err other)

-- one after the other
unfoldable pub pair_at : {A B : Type 0} → Parser A → Parser B → Parser (A × B)
pair_at first second bytes = do
  a ← first bytes
  b ← second a.1
  Ok ((a.0, b.0), b.1)

-- what is made of it
unfoldable pub made_at : {A B : Type 0} → (A → B) → Parser A → Parser B
made_at make part bytes = do
  a ← part bytes
  Ok (make a.0, a.1)

-- a number that passes the test, and what it says how much there is of
unfoldable pub after_number : {A : Type 0} → (ℕ → Bool) → FileFault → (ℕ → Parser A) → Parser A
after_number admits fault rest bytes = do
  n ← number_at bytes
  admitted ← tested (admits n.0) fault
  rest n.0 n.1

abbrev pub any_number : ℕ → Bool
any_number n = true

-- so many items, after the ones before them; each reader is told the index of its item
unfoldable pub many_from : {A : Type 0} → (ℕ → Parser A) → List A → ℕ → Parser (List A)
many_from part front zero bytes = Ok (front, bytes)
many_from part front (suc n) bytes = do
  item ← part (length front) bytes
  many_from part (front ++ item.0 ∷ []) n item.1

-- ---- keys, marks and records

unfoldable pub is_key_length : ℕ → Bool
is_key_length n = nat_le 1 n && nat_le n 65536

unfoldable pub key_at : FileFault → Parser (List ℕ)
key_at fault = after_number is_key_length fault slice_at

unfoldable pub text_at : Parser (List ℕ)
text_at = after_number any_number Truncated slice_at

unfoldable pub mark_with : ℕ → Option ℕ → Option Mark
mark_with zero previous = Some (Input previous)
mark_with (suc zero) previous = Some (Executed previous)
mark_with (suc (suc zero)) None = None
mark_with (suc (suc zero)) (Some place) = Some (Green place)
mark_with (suc (suc (suc kind))) previous = None

-- what is there, else a fault
abbrev pub there : {A : Type 0} → FileFault → Option A → List ℕ → Result (A × List ℕ) FileFault
there fault None rest = Err fault
there fault (Some a) rest = Ok (a, rest)

-- after the byte that says whether there is a place
unfoldable pub place_after : FileFault → ℕ → Parser (Option ℕ)
place_after fault zero rest = Ok (None, rest)
place_after fault (suc zero) rest = do
  place ← number_at rest
  Ok (Some place.0, place.1)
place_after fault (suc (suc flag)) rest = Err fault

unfoldable pub place_at : FileFault → Parser (Option ℕ)
place_at fault bytes = do
  flag ← or_truncated (byte_at bytes)
  place_after fault flag.0 flag.1

-- the mark of the record with this index
unfoldable pub mark_at : ℕ → Parser Mark
mark_at i bytes = do
  kind ← or_truncated (byte_at bytes)
  previous ← place_at (UnknownMark i) kind.1
  there (UnknownMark i) (mark_with kind.0 previous.0) previous.1

unfoldable pub number_part : ℕ → Parser ℕ
number_part i = number_at

unfoldable pub reads_at : Parser (List ℕ)
reads_at = after_number any_number Truncated (many_from number_part [])

abbrev pub record_of : ((List ℕ × Mark) × List ℕ) × List ℕ → RecordValue
record_of x = record { key = x.0.0.0; mark = x.0.0.1; reads = x.0.1; value = x.1 }

-- the record with this index
unfoldable pub record_at : ℕ → Parser RecordValue
record_at i = made_at record_of (pair_at (pair_at (pair_at (key_at (KeyLength i)) (mark_at i)) reads_at) text_at)

-- ---- the file

unfoldable pub root_at : ℕ → Parser (List ℕ)
root_at i = key_at (RootLength i)

unfoldable pub roots_at : Parser (List (List ℕ))
roots_at = after_number (nat_lt 0) NoRoot (many_from root_at [])

unfoldable pub records_at : Parser (List RecordValue)
records_at = after_number any_number Truncated (many_from record_at [])

unfoldable pub start_at : Parser (Unit {0} × Unit {0})
start_at = pair_at (exact_at magic BadMagic BadMagic) (exact_at version Truncated Version)

unfoldable pub head_at : Parser (((Unit {0} × Unit {0}) × ℕ) × List ℕ)
head_at = pair_at (pair_at start_at number_at) (slice_at 32)

unfoldable pub parts_at : Parser (((((Unit {0} × Unit {0}) × ℕ) × List ℕ) × List (List ℕ)) × List RecordValue)
parts_at = pair_at (pair_at head_at roots_at) records_at

abbrev pub session_with : ((((Unit {0} × Unit {0}) × ℕ) × List ℕ) × List (List ℕ)) × List RecordValue → FileValue
session_with x = record { number = x.0.0.0.1; link = x.0.0.1; roots = x.0.1; records = x.1 }

-- all before the digest
unfoldable pub body_at : Parser FileValue
body_at = made_at session_with parts_at

-- this digest, and nothing after it
unfoldable pub end_at : List ℕ → List ℕ → Result (Unit {0}) FileFault
end_at digest bytes = do
  end ← exact_at digest Truncated BadDigest bytes
  tested (nat_le (length end.1) 0) Trailing

-- the session whose file the bytes are, or the first breach
unfoldable pub file_at : List ℕ → Result FileValue FileFault
file_at bytes = do
  body ← body_at bytes
  end ← end_at (sha256 (take (length bytes - length body.1) bytes)) body.1
  Ok body.0
