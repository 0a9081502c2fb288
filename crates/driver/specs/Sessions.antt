-- What one session of a project is, and what is reported of it.
use Rattle.std.specs.Prelude.{◌≡◌, ℕ, ◌≤◌, List, length, sum, vec_len, Option, Result, Ok, Err}
use Rattle.std.specs.List.{sum_by}
use Rattle.recorder.specs.Projects.{Project}
use Rattle.recorder.specs.Backed.{Queries}
use Rattle.sessions.specs.declared.terms.Terms.{Terms}
use Rattle.sessions.specs.declared.mark.Mark.{Mark}
use Rattle.sessions.specs.declared.mark.Mark.TheVariants.{Input, Green, Executed}
use Rattle.sessions.specs.Sessions.{RecordValue, SessionValue}
use Rattle.graph_rules.specs.Settings.{setting_of}
use Rattle.graph_rules.specs.Steps.{Event, Legal, state_after}
use Rattle.graph_rules.specs.Sound.{AreBacked}
use Rattle.shared_table.specs.Closing.{IsFull, IsClosing}
use Rattle.shared_table.specs.Closes.{MayClose}
use Rattle.driver.specs.declared.reports.Reports.{Reports}
use Rattle.driver.specs.declared.fault.DriveFault.{DriveFault}
use Rattle.driver.specs.declared.fault.DriveFault.TheVariants as fault

-- a session is made by 1 to 64 workers
abbrev pub IsCrew : ℕ → Type 0
IsCrew workers = (1 ≤ workers) × (workers ≤ 64)

-- The events are a legal history of a session of these terms over the previous session and the
-- project, each outcome in it follows from its reads, and the session is what their last state closes
-- with.
pub record AreEventsOf (queries : Queries) (terms : Terms) (past : Option SessionValue)
    (p : Project) (history : List Event) (s : SessionValue) : Type 0 where
  pub legal : Legal (setting_of queries.by_profile terms.profile past) p history
  pub backed : AreBacked (queries.mean terms.profile) (queries.reads terms.profile) history
  pub may_close
      : MayClose (state_after (setting_of queries.by_profile terms.profile past) p history)
  pub closing : IsClosing terms past p
      (state_after (setting_of queries.by_profile terms.profile past) p history) s

-- the least number of events by which a key becomes done with this mark: it is claimed and marked,
-- or it is claimed, and its run begins and ends
abbrev pub events_for : Mark → ℕ
events_for Input = 0
events_for Green = 2
events_for Executed = 3

-- the least number of events by which the keys of these records become done
abbrev pub events_needed : List RecordValue → ℕ
events_needed records = sum_by (λ r. events_for r.mark) records

-- The reports count the events: for each worker those that it made, which are all of them together.
-- There are enough for the session's records.
pub record AreReportsOn (history : List Event) (workers : ℕ) (s : SessionValue) (r : Reports)
    : Type 0 where
  pub history_is : r.history ≡ length history
  pub workers_are : vec_len r.events ≡ workers
  pub sum_is : sum r.events.items ≡ r.history
  pub enough : events_needed s.records ≤ r.history

-- The session comes of a history, on which these are the reports.
pub record IsSessionOf (queries : Queries) (terms : Terms) (past : Option SessionValue)
    (p : Project) (workers : ℕ) (s : SessionValue) (r : Reports) : Type 0 where
  pub history : List Event
  pub events : AreEventsOf queries terms past p history s
  pub reports : AreReportsOn history workers s r

-- one session, or why there is none: the number of workers comes first, then a previous session
-- that none can follow
abbrev pub DriveGives : Queries → Terms → Option SessionValue → Project → ℕ
    → Result (SessionValue × Reports) DriveFault → Type 0
DriveGives queries terms past p workers (Ok done) =
    IsCrew workers × ¬ IsFull past × IsSessionOf queries terms past p workers done.0 done.1
DriveGives queries terms past p workers (Err fault.Workers) = ¬ IsCrew workers
DriveGives queries terms past p workers (Err fault.ChainFull) = IsCrew workers × IsFull past
DriveGives queries terms past p workers (Err fault.OutOfMemory) = IsCrew workers × ¬ IsFull past
