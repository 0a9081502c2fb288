-- Runs of bytes one behind the other, each behind its length.
use Rattle.std.specs.Prelude.{◌≡◌, ℕ, ◌<◌, ◌^◌, List, [], ◌∷◌, ◌++◌, length, flat_map, Ok, Err}
use Rattle.std.specs.List.{AllByRecursion}
use Rattle.packed_files.specs.Packing.{run}
use Rattle.packed_files.specs.Unpacking.{run_at}
use Rattle.packed_files.specs.declared.flaws.Flaw.{Flaw}
use Rattle.packed_files.specs.declared.flaws.Flaw.TheVariants as flaws
use Rattle.packed_files.specs.declared.flaws.UnpackFault.{UnpackFault}
use Rattle.packed_files.specs.declared.flaws.UnpackFault.TheVariants as faults

abbrev pub packed_runs : List (List ℕ) → List ℕ
packed_runs runs = flat_map run runs

-- its length has a spelling
abbrev pub IsShort : List ℕ → Type 0
IsShort bytes = length bytes < 2 ^ 64

-- The first run with a flaw: so many are packed in front of it.
pub record IsFlawedRun (bytes : List ℕ) (number : ℕ) (flaw : Flaw) : Type 0 where
  pub before : List (List ℕ)
  pub rest : List ℕ
  pub short : AllByRecursion IsShort before
  pub parts : bytes ≡ packed_runs before ++ rest
  pub number_is : length before ≡ number
  pub some : 0 < length rest
  pub flaw_is : run_at flaws.Length flaws.Bytes rest ≡ Err flaw

-- why bytes are no runs
abbrev pub RefusesRuns : List ℕ → UnpackFault → Type 0
RefusesRuns bytes (faults.Flawed number flaw) = IsFlawedRun bytes number flaw
RefusesRuns bytes faults.OutOfMemory = ⊥

-- ---- one run

-- The first run of these bytes is added, and this is left.
pub record UnpacksRun (bytes rest : List ℕ) (old new : List (List ℕ)) : Type 0 where
  pub text : List ℕ
  pub reads : run_at flaws.Length flaws.Bytes bytes ≡ Ok (text, rest)
  pub added : new ≡ old ++ text ∷ []

-- the first run of these bytes has a flaw, and this number
abbrev pub IsRunRefusedAt : List ℕ → ℕ → UnpackFault → Type 0
IsRunRefusedAt bytes number (faults.Flawed k flaw) =
    (k ≡ number) × (run_at flaws.Length flaws.Bytes bytes ≡ Err flaw)
IsRunRefusedAt bytes number faults.OutOfMemory = Unit {0}
