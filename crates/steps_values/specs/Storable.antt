-- Which items have a spelling: names, and lists whose length can be written in eight bytes.
use Rattle.std.specs.Prelude.{ℕ, ◌<◌, ◌≤◌, ◌^◌, List, [], ◌∷◌, length, Contains}
use Rattle.std.specs.List.{AllByRecursion}
use Rattle.byte_readers.specs.Names.{IsName}
use Rattle.named_files.specs.Projects.{most_files}
use Rattle.steps_values.specs.Payloads.{StepValue}

-- a number of items that can be written
abbrev pub IsCount : ℕ → Type 0
IsCount n = n < 2 ^ 64

abbrev pub AreDistinctNames : List (List ℕ) → Type 0
AreDistinctNames [] = Unit {0}
AreDistinctNames (n ∷ ns) = (Contains ns n → ⊥) × AreDistinctNames ns

pub record FileNamesFit (names : List (List ℕ)) : Type 0 where
  pub some : 0 < length names
  pub few : length names ≤ most_files
  pub each : AllByRecursion IsName names
  pub distinct : AreDistinctNames names

abbrev pub TextFits : List ℕ → Type 0
TextFits bytes = IsCount (length bytes)

pub record StepFits (s : StepValue) : Type 0 where
  pub name : IsName s.name
  pub few : IsCount (length s.reads)
  pub reads : AllByRecursion IsName s.reads

pub record PlanFits (plan : List StepValue) : Type 0 where
  pub few : IsCount (length plan)
  pub steps : AllByRecursion StepFits plan
