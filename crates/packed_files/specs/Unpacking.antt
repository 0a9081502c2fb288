-- Unpacking files from left to right, with the first flaw that is met.
use Rattle.std.specs.Prelude.{◌≡◌, ℕ, ◌<◌, List, [], ◌∷◌, ◌++◌, length, take, drop, Result, Ok, Err, nat_lt, if◌then◌else◌}
use Rattle.std.specs.List.{AllByRecursion}
use Rattle.std.specs.Str.{is_utf8}
use Rattle.byte_readers.specs.declared.breach.Breach.{Breach}
use Rattle.byte_readers.specs.Reading.{eight_at}
use Rattle.named_files.specs.Projects.{SourceFile}
use Rattle.packed_files.specs.Packing.{IsPackable, packed}
use Rattle.packed_files.specs.declared.flaws.Flaw.{Flaw}
use Rattle.packed_files.specs.declared.flaws.Flaw.TheVariants as flaws
use Rattle.packed_files.specs.declared.flaws.UnpackFault.{UnpackFault}
use Rattle.packed_files.specs.declared.flaws.UnpackFault.TheVariants as faults

infixl 10 ◌>>=◌
abbrev pub ◌>>=◌ : {A B : Type 0} → Result A Flaw → (A → Result B Flaw) → Result B Flaw
(Ok x) >>= f = f x
(Err flaw) >>= f = Err flaw

abbrev pub source_file : List ℕ → List ℕ → SourceFile
source_file name bytes = record { name = name; bytes = bytes }

-- what was read of a length, else this flaw
abbrev pub or_flaw : Flaw → Result (ℕ × List ℕ) Breach → Result (ℕ × List ℕ) Flaw
or_flaw flaw (Ok length) = Ok length
or_flaw flaw (Err breach) = Err flaw

-- a length, and so many bytes; else the flaw if the length is cut off, or the bytes
unfoldable pub run_at : Flaw → Flaw → List ℕ → Result (List ℕ × List ℕ) Flaw
run_at length_cut cut bytes = do
  n ← or_flaw length_cut (eight_at bytes)
  if nat_lt (length n.1) n.0 then Err cut else Ok (take n.0 n.1, drop n.0 n.1)

-- a name that is a text, and the bytes of its file
unfoldable pub file_at : List ℕ → Result (SourceFile × List ℕ) Flaw
file_at bytes = do
  name ← run_at flaws.NameLength flaws.Name bytes
  if is_utf8 name.0 then
      (run_at flaws.Length flaws.Bytes name.1 >>= λ text. Ok (source_file name.0 text.0, text.1))
      else Err flaws.NotText

-- The first file with a flaw: so many are packed in front of it.
pub record IsFlawed (bytes : List ℕ) (number : ℕ) (flaw : Flaw) : Type 0 where
  pub before : List SourceFile
  pub rest : List ℕ
  pub packable : AllByRecursion IsPackable before
  pub parts : bytes ≡ packed before ++ rest
  pub number_is : length before ≡ number
  pub some : 0 < length rest
  pub flaw_is : file_at rest ≡ Err flaw

-- why bytes are no files
abbrev pub Refuses : List ℕ → UnpackFault → Type 0
Refuses bytes (faults.Flawed number flaw) = IsFlawed bytes number flaw
Refuses bytes faults.OutOfMemory = ⊥

-- ---- one file

-- The first file of these bytes is added, and this is left.
pub record UnpacksOne (bytes rest : List ℕ) (old new : List SourceFile) : Type 0 where
  pub file : SourceFile
  pub reads : file_at bytes ≡ Ok (file, rest)
  pub added : new ≡ old ++ file ∷ []

-- the first file of these bytes has a flaw, and this number
abbrev pub IsRefusedAt : List ℕ → ℕ → UnpackFault → Type 0
IsRefusedAt bytes number (faults.Flawed k flaw) = (k ≡ number) × (file_at bytes ≡ Err flaw)
IsRefusedAt bytes number faults.OutOfMemory = Unit {0}
