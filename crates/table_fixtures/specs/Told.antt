-- Runs, chains of sessions and tables, as short texts give them.
use Rattle.std.specs.Prelude.{◌≡◌, ℕ, Bool, true, false, ◌==◌, List, [], ◌∷◌, Contains, find, slice_get, Option, Some, None, Ok}
use Rattle.std.specs.List.{AllByRecursion, AllZip, list_any, enumerate_from}
use Rattle.recorder.specs.Backed.{ReadValue}
use Rattle.recorder.specs.Runs.{OutcomeValue, IsOutcome}
use Rattle.query_rules.specs.Meaning.{mean}
use Rattle.query_rules.specs.Reads.{reads}
use Rattle.query_rules.specs.Queries.{queries}
use Rattle.profiles.specs.declared.profile.Profile.{Profile}
use Rattle.sessions.specs.declared.terms.Terms.{Terms}
use Rattle.sessions.specs.declared.mark.Mark.{Mark}
use Rattle.sessions.specs.declared.mark.Mark.TheVariants.{Input, Executed, Green}
use Rattle.sessions.specs.Sessions.{SessionValue, next_number}
use Rattle.sessions.specs.Spelling.{next_link}
use Rattle.job_table.specs.Tables.{TableValue}
use Rattle.job_table.specs.Calls.{OpenGives}
use Rattle.answer_fixtures.specs.Telling.{IsKeyOf, IsSpelledValue, one_file}
use Rattle.session_fixtures.specs.declared.records.Kept.{Kept}
use Rattle.session_fixtures.specs.Telling.{IsToldSession}
use Rattle.table_fixtures.specs.declared.changes.Change.{Change}
use Rattle.table_fixtures.specs.declared.changes.Other.{Other}

-- each leads from a state to the next one, the first from s and the last to t
abbrev pub InTurn : {A S : Type 0} → (A → S → S → Type 0) → List A → S → S → Type 0
InTurn Leads [] s t = t ≡ s
InTurn {A} {S} Leads (x ∷ xs) s t = (between : S) × Leads x s between × InTurn Leads xs between t

-- ---- runs

-- the answer of the record at this index
pub record IsAnswerAt (records : List Kept) (at : ℕ) (answer : ReadValue) : Type 0 where
  pub kept : Kept
  pub stands : slice_get records at ≡ Some kept
  pub key : IsKeyOf kept.key answer.key
  pub value : IsSpelledValue kept.key.0 kept.digits.now answer.value

-- the answers of the records at these indices
abbrev pub AreAnswersAt : List Kept → List ℕ → List ReadValue → Type 0
AreAnswersAt records edges answers = AllZip (IsAnswerAt records) edges answers

-- the outcome of a run of the record's key in the profile, which reads answers of the record's edges
-- only
pub record IsRunOf (profile : Profile) (records : List Kept) (kept : Kept) (o : OutcomeValue)
    : Type 0 where
  pub key : IsKeyOf kept.key o.key
  pub profile_is : o.profile ≡ profile
  pub answers : List ReadValue
  pub of_edges : AreAnswersAt records kept.edges.now answers
  pub read : AllByRecursion (λ t. Contains answers t) o.told
  pub outcome : IsOutcome (mean profile) (reads profile) o

-- ---- sessions by what changed

-- how a record becomes done: no change makes an input anything else
abbrev pub mark_told : Bool → Mark → Mark
mark_told executed Input = Input
mark_told true Executed = Executed
mark_told true Green = Executed
mark_told false Executed = Green
mark_told false Green = Green

-- the digits of another result, if there is one
abbrev pub digits_told : Option Other → List ℕ → List ℕ
digits_told None own = own
digits_told (Some other) own = other.digits.now

-- what the change makes of the record at this place
pub record IsChanged (change : Change) (at : ℕ) (before after : Kept) : Type 0 where
  pub key : after.key ≡ before.key
  pub edges : after.edges ≡ before.edges
  pub mark : after.mark ≡ mark_told (list_any (λ i. i == at) change.executed.now) before.mark
  pub digits : after.digits.now
      ≡ digits_told (find (λ other. other.at == at) change.others.now) before.digits.now

-- the records of the session with these changes
abbrev pub AreChanged : Change → List Kept → Type 0
AreChanged change records =
    AllZip (λ x. IsChanged change x.0 x.1) (enumerate_from 0 change.records.now) records

-- the session of these terms and records behind another one, or the first
pub record IsNextOf (terms : Terms) (past : Option SessionValue) (records : List Kept)
    (s : SessionValue) : Type 0 where
  pub told : IsToldSession (next_number past) (next_link past) records s
  pub terms_are : s.terms ≡ terms

-- after is the session with these changes, behind the one before
pub record IsBehind (change : Change) (before after : Option SessionValue) : Type 0 where
  pub records : List Kept
  pub changed : AreChanged change records
  pub session : SessionValue
  pub told : IsNextOf change.terms before records session
  pub after_is : after ≡ Some session

-- the last session of the chain, or none if the chain is empty
abbrev pub IsLastOf : List Change → Option SessionValue → Type 0
IsLastOf chain past = InTurn IsBehind chain None past

-- ---- tables

-- a table of these terms and of a project of this text, just opened behind the chain
pub record IsOpenedTable (terms : Terms) (chain : List Change) (text : List ℕ) (t : TableValue)
    : Type 0 where
  pub past : Option SessionValue
  pub last : IsLastOf chain past
  pub opened : OpenGives queries.by_profile terms past (one_file text) (Ok t)
