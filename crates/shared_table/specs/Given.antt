-- What calls at a shared table answer, which others may change at any time.
use Rattle.std.specs.Prelude.{◌≡◌, List, [], Result, Ok, Err}
use Rattle.std.specs.List.{AllByRecursion}
use Rattle.std.specs.Arc.{arc_value}
use Rattle.item_ids.specs.declared.key.Key.{Key}
use Rattle.result_bytes.specs.declared.value.Value.{Value}
use Rattle.named_files.specs.Projects.{IsProject}
use Rattle.recorder.specs.Backed.{Queries, ReadValue}
use Rattle.graph_rules.specs.Steps.{Legal, IsDoneWith}
use Rattle.graph_rules.specs.Sound.{AreBacked, IsInOrder}
use Rattle.job_table.specs.Tables.{TableValue, past_of, state_of, with_history}
use Rattle.job_table.specs.declared.fault.Asked.{Asked}
use Rattle.job_table.specs.declared.fault.Asked.TheVariants as asked
use Rattle.job_table.specs.declared.fault.TableFault.{TableFault}
use Rattle.job_table.specs.declared.fault.TableFault.TheVariants as fault
use Rattle.shared_table.specs.Told.{is_told}

-- The table is one of the session whose table was opened so: its project is one, its history is legal,
-- and each outcome in it follows from its reads. So what is done in it is in order.
pub record IsOfSession (queries : Queries) (opened t : TableValue) : Type 0 where
  pub opened_is : with_history t [] ≡ opened
  pub project : IsProject t.project
  pub legal : Legal (past_of t) t.project t.history
  pub backed : AreBacked (queries.mean t.terms.profile) (queries.reads t.terms.profile) t.history
  pub order : IsInOrder (state_of t)

-- a table of the session, and what the call made of it
pub record IsGiven (queries : Queries) (opened : TableValue)
    (gives : TableValue → TableValue → Type 0) : Type 0 where
  pub before : TableValue
  pub after : TableValue
  pub of_session : IsOfSession queries opened before
  pub gave : gives before after

-- in a table of the session the key is done with this value
pub record IsDoneInSession (queries : Queries) (opened : TableValue) (q : Key) (v : Value)
    : Type 0 where
  pub table : TableValue
  pub of_session : IsOfSession queries opened table
  pub done : IsDoneWith v ((state_of table).at q)

-- with each of these results its key is done in a table of the session
abbrev pub AreDoneInSession : Queries → TableValue → List ReadValue → Type 0
AreDoneInSession queries opened told =
    AllByRecursion (λ r. IsDoneInSession queries opened r.key r.value) told

-- the list of what was told has the key with this value, with which it is done in a table of the session
abbrev pub IsKnown : Queries → TableValue → List ReadValue → Key → Value → Type 0
IsKnown queries opened told q v = is_told told q v × IsDoneInSession queries opened q v

-- what a seat may answer by itself: a result with which the key is done in a table of the session, or
-- that it lacks memory
abbrev pub IsOwnAnswer : Queries → TableValue → Key → Result Asked TableFault → Type 0
IsOwnAnswer queries opened q (Ok (asked.Done a)) = IsDoneInSession queries opened q (arc_value a)
IsOwnAnswer queries opened q (Err fault.OutOfMemory) = Unit {0}
IsOwnAnswer queries opened q _ = ⊥
