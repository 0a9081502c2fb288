-- Sessions that are run, what is reported of them, and why there is none.
use Rattle.std.specs.Prelude.{◌≡◌, ℕ, [], replicate, Option, Some, None, Ok, Err}
use Rattle.recorder.specs.Projects.{Project}
use Rattle.query_rules.specs.Queries.{queries}
use Rattle.sessions.specs.declared.terms.Terms.{Terms}
use Rattle.sessions.specs.Terms.{first_terms}
use Rattle.sessions.specs.Sessions.{SessionValue}
use Rattle.mini_java.specs.Sessions.{DriveGives}
use Rattle.mini_java.specs.DriveFault.{DriveFault}
use Rattle.mini_java.specs.Reports.{Reports}
use Rattle.session_fixtures.specs.Telling.{IsToldSession}
use Rattle.table_fixtures.specs.declared.driving.Counts.{Counts}

-- a session of these terms and of the project over this previous session by so many workers, with
-- what is reported of it
abbrev pub IsMade : Terms → Option SessionValue → Project → ℕ → SessionValue → Reports → Type 0
IsMade terms past p workers s r = DriveGives queries terms past p workers (Ok (s, r))

-- the reports have these counts
pub record HasCounts (counts : Counts) (r : Reports) : Type 0 where
  pub history : r.history ≡ counts.history
  pub events : r.events.items ≡ counts.events.now

-- a session over this previous session whose reports have these counts
pub record IsReported (past : Option SessionValue) (p : Project) (counts : Counts)
    (s : SessionValue) : Type 0 where
  pub reports : Reports
  pub made : IsMade counts.terms past p counts.workers s reports
  pub counted : HasCounts counts reports

-- a first session of the project, and one over it, whose reports have these counts
pub record AreReported (p : Project) (first again : Counts) : Type 0 where
  pub first_session : SessionValue
  pub first_reported : IsReported None p first first_session
  pub next_session : SessionValue
  pub next_reported : IsReported (Some first_session) p again next_session

-- the previous session is the one of this number without records, or none if there is no number
abbrev pub IsPastOf : Option ℕ → Option SessionValue → Type 0
IsPastOf None None = Unit {0}
IsPastOf None (Some s) = ⊥
IsPastOf (Some number) None = ⊥
IsPastOf (Some number) (Some s) = IsToldSession number (replicate 32 0) [] s

-- why there is no session over this previous session, or none if there is one
abbrev pub IsFaultOver : Option SessionValue → Project → ℕ → Option DriveFault → Type 0
IsFaultOver past p workers None =
    (s : SessionValue) × (r : Reports) × IsMade first_terms past p workers s r
IsFaultOver past p workers (Some fault) = DriveGives queries first_terms past p workers (Err fault)

-- the same over the previous session of this number
pub record IsNextFault (number : Option ℕ) (p : Project) (workers : ℕ) (fault : Option DriveFault)
    : Type 0 where
  pub past : Option SessionValue
  pub numbered : IsPastOf number past
  pub told : IsFaultOver past p workers fault
