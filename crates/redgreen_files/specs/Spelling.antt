-- The bytes of session files. Numbers are big endian.
use Rattle.std.specs.Prelude.{◌≡◌, ℕ, ◌<◌, ◌≤◌, ◌^◌, List, [], ◌∷◌, ◌++◌, length, map, Some}
use Rattle.std.specs.List.{AllByRecursion}
use Rattle.sha2.specs.Sha256.{sha256}
use Rattle.byte_readers.specs.Spelling.{eight, list, option}
use Rattle.redgreen_sessions.specs.declared.record.Mark.{Mark}
use Rattle.redgreen_sessions.specs.declared.record.Mark.TheVariants.{Input, Green, Executed}
use Rattle.redgreen_sessions.specs.declared.record.Record.{Record}
use Rattle.redgreen_sessions.specs.declared.record.Session.{Session}
use Rattle.redgreen_sessions.specs.Marks.{previous_of}

-- ---- what a file says

pub record RecordValue : Type 0 where
  pub key : List ℕ
  pub mark : Mark
  pub reads : List ℕ
  pub value : List ℕ

pub record FileValue : Type 0 where
  pub number : ℕ
  pub link : List ℕ
  pub roots : List (List ℕ)
  pub records : List RecordValue

abbrev pub value_of : Record → RecordValue
value_of r = record { key = r.key; mark = r.mark; reads = r.reads.items; value = r.value }

abbrev pub file_value : Session → FileValue
file_value s = record {
  number = s.number;
  link = s.link;
  roots = s.roots.items;
  records = map value_of s.records.items;
}

-- ---- its bytes

-- bytes: their number, and they themselves
abbrev pub text : List ℕ → List ℕ
text bytes = eight (length bytes) ++ bytes

abbrev pub kind_number : Mark → ℕ
kind_number (Input previous) = 0
kind_number (Executed previous) = 1
kind_number (Green place) = 2

-- its kind, and the place in the previous session of the same key with the same value: 00, or 01 and the place
unfoldable pub mark : Mark → List ℕ
mark m = kind_number m ∷ option eight (previous_of m)

abbrev pub entry : RecordValue → List ℕ
entry r = text r.key ++ mark r.mark ++ list eight r.reads ++ text r.value

-- the letters REDGREEN
abbrev pub magic : List ℕ
magic = 0x52 ∷ 0x45 ∷ 0x44 ∷ 0x47 ∷ 0x52 ∷ 0x45 ∷ 0x45 ∷ 0x4e ∷ []

-- version 1
abbrev pub version : List ℕ
version = 0 ∷ 1 ∷ []

unfoldable pub body_of : FileValue → List ℕ
body_of s = magic ++ version ++ eight s.number ++ s.link ++ list text s.roots ++ list entry s.records

-- the SHA-256 of all before it is at its end
unfoldable pub file_of : FileValue → List ℕ
file_of s = body_of s ++ sha256 (body_of s)

-- ---- which ones have a file

-- from 1 to 65,536 bytes
pub record IsKey (key : List ℕ) : Type 0 where
  pub some : 1 ≤ length key
  pub few : length key ≤ 65536

pub record MarkFits (m : Mark) : Type 0 where
  pub place : (place : ℕ) → previous_of m ≡ Some place → place < 2 ^ 64

pub record EntryFits (r : RecordValue) : Type 0 where
  pub key : IsKey r.key
  pub mark : MarkFits r.mark
  pub few : length r.reads < 2 ^ 64
  pub reads : AllByRecursion (λ n. n < 2 ^ 64) r.reads
  pub value : length r.value < 2 ^ 64

pub record FileFits (s : FileValue) : Type 0 where
  pub number : s.number < 2 ^ 64
  pub link : length s.link ≡ 32
  pub some : 0 < length s.roots
  pub few_roots : length s.roots < 2 ^ 64
  pub roots : AllByRecursion IsKey s.roots
  pub few : length s.records < 2 ^ 64
  pub records : AllByRecursion EntryFits s.records
