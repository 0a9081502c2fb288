-- Sessions by several workers, and why there is none.
use Rattle.std.specs.Prelude.{◌≡◌, ◌⊎◌, ℕ, List, Option, Some, None}
use Rattle.recorder.specs.Projects.{Project}
use Rattle.sessions.specs.Sessions.{SessionValue}
use Rattle.sessions.specs.Spelling.{digest_of}
use Rattle.mini_java.specs.DriveFault.{DriveFault}
use Rattle.mini_java.specs.DriveFault.TheVariants.{OutOfMemory}
use Rattle.answer_fixtures.specs.Telling.{one_file}
use Rattle.table_fixtures.specs.declared.changes.Change.{Change}
use Rattle.table_fixtures.specs.Told.{IsBehind, IsLastOf}
use Rattle.crew_fixtures.specs.Made.{IsDigestOver, IsFirstFault}

-- why there is no first session of some project by so many workers, or none if there is one
abbrev pub IsFaultOfSome : ℕ → Option DriveFault → Type 0
IsFaultOfSome workers fault = (p : Project) × IsFirstFault p workers fault

-- there is a first session of the project by so many workers, or none for lack of memory
abbrev pub IsMadeOrLacksMemory : Project → ℕ → Type 0
IsMadeOrLacksMemory p workers =
    IsFirstFault p workers None ⊎ IsFirstFault p workers (Some OutOfMemory)

-- A session of the text by so many workers, over the last one of the chain, has the file of the session
-- with these changes.
pub record IsMadeAs (text : List ℕ) (chain : List Change) (change : Change) (workers : ℕ) : Type 0 where
  pub past : Option SessionValue
  pub last : IsLastOf chain past
  pub digest : List ℕ
  pub made : IsDigestOver change.terms past (one_file text) workers digest
  pub wanted : SessionValue
  pub behind : IsBehind change past (Some wanted)
  pub same : digest ≡ digest_of wanted
