-- Why a chain is refused: the record that is named is the first one with a fault, and it has that fault.
use Rattle.std.specs.Prelude.{◌≡◌, ◌≢◌, ◌<◌, ◌≤◌, ◌⊎◌, ℕ, List, [], ◌∷◌, map, take, length, slice_get, Some}
use Rattle.redgreen_rules.specs.Programs.{Key, Value}
use Rattle.redgreen_rules.specs.Runs.{IsIn, Run, End, Gave, Wanted, Failed, AreMade}
use Rattle.redgreen_rules.specs.Sessions as rules
use Rattle.redgreen_rules.specs.Sessions.{Passes, ArePassed, runs_of, runs_in}
use Rattle.redgreen_sessions.specs.declared.record.Mark.TheVariants.{Green}
use Rattle.redgreen_sessions.specs.Marks.{previous_of}
use Rattle.redgreen_sessions.specs.declared.record.Record.{Record}
use Rattle.redgreen_sessions.specs.declared.record.Session.{Session}
use Rattle.redgreen_sessions.specs.Views.{mark_of, entry_in, entries_of, session_of}
use Rattle.redgreen_audit.specs.Answering.{told_first, IsStrange}
use Rattle.redgreen_audit.specs.Checks.{AreEarlier, HaveOnce, HaveNew, HasReads, IsUnchangedAt, IsTakenFrom, PassesAt}
use Rattle.redgreen_audit.specs.declared.fault.RecordFault.{RecordFault}
use Rattle.redgreen_audit.specs.declared.fault.RecordFault.TheVariants.{RepeatedKey, InputWithReads, LaterRead, RepeatedRead, Changed, NotGreen, OtherRead, MissingRead, OtherValue, FailedRun}
use Rattle.redgreen_audit.specs.declared.fault.Fault.{Fault}
use Rattle.redgreen_audit.specs.declared.fault.Fault.TheVariants.{NoSession, Wrong, Client, OutOfMemory}
use Rattle.redgreen_audit.specs.declared.rerun.Unlike.{Unlike}
use Rattle.redgreen_audit.specs.declared.rerun.Unlike.TheVariants.{Faulty, Stops}
use Rattle.redgreen_audit.specs.declared.checking.Wrong.{Wrong as Mistake}
use Rattle.redgreen_audit.specs.declared.checking.Wrong.TheVariants as mistakes

-- ---- runs

-- a run of the record's key that was told the first of its reads
abbrev pub run_to : List Record → Record → ℕ → End → Run
run_to records item i end = record { key = item.key; told = told_first records item.reads.items i; end = end }

abbrev pub Differs : List Record → Record → ℕ → End → RecordFault → Type 0
Differs records item i end OtherRead = (k : Key) × (end ≡ Wanted k) × IsStrange records item.reads.items i k
Differs records item i end MissingRead = (v : Value) × (end ≡ Gave v) × (i < length item.reads.items)
Differs records item i end OtherValue = (v : Value) × (end ≡ Gave v) × (i ≡ length item.reads.items) × (v ≢ item.value)
Differs records item i end FailedRun = end ≡ Failed
Differs records item i end RepeatedKey = ⊥
Differs records item i end InputWithReads = ⊥
Differs records item i end LaterRead = ⊥
Differs records item i end RepeatedRead = ⊥
Differs records item i end Changed = ⊥
Differs records item i end NotGreen = ⊥

-- the client made this run of the record's key, and it isn't the record's
pub record RunDiffers {S : Type 0} (makes : S → Run → S → Type 0) (s t : S) (records : List Record) (item : Record) (record_fault : RecordFault) : Type 0 where
  pub count : ℕ
  pub end : End
  pub within : count ≤ length item.reads.items
  pub differs : Differs records item count end record_fault
  pub made : makes s (run_to records item count end) t

abbrev pub RefusesRun : {S : Type 0} → (S → Run → S → Type 0) → S → S → List Record → Record → Unlike → Type 0
RefusesRun makes s t records item (Faulty record_fault) = RunDiffers makes s t records item record_fault
RefusesRun makes s t records item (Stops stop) = Unit {0}

-- the runs of the executed records before it were those of the records
pub record FirstDiffers {S : Type 0} (makes : S → Run → S → Type 0) (s t : S) (records : List Record) (n : ℕ) (unlike : Unlike) : Type 0 where
  pub item : Record
  pub here : slice_get records n ≡ Some item
  pub executed : mark_of item.mark ≡ rules.Executed
  pub state : S
  pub before : AreMade makes s (runs_of (map (entry_in records) (take n records))) state
  pub refuses : RefusesRun makes state t records item unlike

-- ---- records without runs

abbrev pub RecordHasFault : List Record → List Record → ℕ → Record → RecordFault → Type 0
RecordHasFault past now at item InputWithReads = (mark_of item.mark ≡ rules.Input) × (item.reads.items ≢ [])
RecordHasFault past now at item LaterRead = (mark_of item.mark ≢ rules.Input) × (AreEarlier item.reads.items at → ⊥)
RecordHasFault past now at item RepeatedRead =
    (mark_of item.mark ≡ rules.Executed) × AreEarlier item.reads.items at × (HaveOnce [] item.reads.items → ⊥)
RecordHasFault past now at item Changed =
    HasReads at item item.mark × (place : ℕ) × (previous_of item.mark ≡ Some place) × (IsUnchangedAt past place item → ⊥)
RecordHasFault past now at item NotGreen =
    (place : ℕ) × (item.mark ≡ Green place) × AreEarlier item.reads.items at × IsUnchangedAt past place item
    × (IsTakenFrom past now place item → ⊥)
RecordHasFault past now at item RepeatedKey = ⊥
RecordHasFault past now at item OtherRead = ⊥
RecordHasFault past now at item MissingRead = ⊥
RecordHasFault past now at item OtherValue = ⊥
RecordHasFault past now at item FailedRun = ⊥

abbrev pub RecordWrong : List Record → List Record → ℕ → Record → Mistake → Type 0
RecordWrong past now at item (mistakes.Record n record_fault) = (n ≡ at) × RecordHasFault past now at item record_fault
RecordWrong past now at item mistakes.OutOfMemory = Unit {0}

-- the records before it pass at their places
pub record FirstFaulty (past now : List Record) (n : ℕ) (record_fault : RecordFault) : Type 0 where
  pub item : Record
  pub here : slice_get now n ≡ Some item
  pub before : (i : ℕ) (r : Record) → i < n → slice_get now i ≡ Some r → PassesAt past now i r
  pub faulty : RecordHasFault past now n item record_fault

abbrev pub EachWrong : List Record → List Record → Mistake → Type 0
EachWrong past now (mistakes.Record n record_fault) = FirstFaulty past now n record_fault
EachWrong past now mistakes.OutOfMemory = Unit {0}

-- no two of the records before it have the same key, and one of them has the record's
pub record Repeats (now : List Record) (n : ℕ) : Type 0 where
  pub item : Record
  pub here : slice_get now n ≡ Some item
  pub before : HaveNew [] (take n now)
  pub other : Record
  pub there : IsIn (take n now) other
  pub same : other.key ≡ item.key

-- keys first, then the records one by one
abbrev pub SessionHasFault : List Record → List Record → ℕ → RecordFault → Type 0
SessionHasFault past now n record_fault = ((record_fault ≡ RepeatedKey) × Repeats now n) ⊎ (HaveNew [] now × FirstFaulty past now n record_fault)

abbrev pub SessionWrong : List Record → List Record → Mistake → Type 0
SessionWrong past now (mistakes.Record n record_fault) = SessionHasFault past now n record_fault
SessionWrong past now mistakes.OutOfMemory = Unit {0}

-- ---- chains

-- no run of the session was made, and it doesn't pass; or it passes, and a run differs
abbrev pub StepRefuses : {S : Type 0} → (S → Run → S → Type 0) → S → S → List Record → List Record → ℕ → RecordFault → Type 0
StepRefuses makes s t past now n record_fault =
    ((s ≡ t) × SessionHasFault past now n record_fault)
    ⊎ (Passes (entries_of past) [] (entries_of now) × FirstDiffers makes s t now n (Faulty record_fault))

abbrev pub StepFails : {S : Type 0} → (S → Run → S → Type 0) → S → S → List Record → ℕ → List Record → Fault → Type 0
StepFails makes s t past k now (Wrong at n record_fault) = (at ≡ k) × StepRefuses makes s t past now n record_fault
StepFails makes s t past k now NoSession = ⊥
StepFails makes s t past k now Client = Unit {0}
StepFails makes s t past k now OutOfMemory = Unit {0}

-- the records of the last session
abbrev pub records_after : List Record → List Session → List Record
records_after past [] = past
records_after past (s ∷ ss) = records_after s.records.items ss

-- the sessions before it pass, and their runs were made
pub record FirstWrong {S : Type 0} (makes : S → Run → S → Type 0) (s t : S) (chain : List Session) (k n : ℕ) (record_fault : RecordFault) : Type 0 where
  pub session : Session
  pub here : slice_get chain k ≡ Some session
  pub passed : ArePassed [] (map session_of (take k chain))
  pub state : S
  pub made : AreMade makes s (runs_in (map session_of (take k chain))) state
  pub refuses : StepRefuses makes state t (records_after [] (take k chain)) session.records.items n record_fault

abbrev pub RefusedWithin : {S : Type 0} → (S → Run → S → Type 0) → S → S → List Session → Fault → Type 0
RefusedWithin makes s t chain (Wrong k n record_fault) = FirstWrong makes s t chain k n record_fault
RefusedWithin makes s t chain NoSession = ⊥
RefusedWithin makes s t chain Client = Unit {0}
RefusedWithin makes s t chain OutOfMemory = Unit {0}

abbrev pub AuditRefuses : {S : Type 0} → (S → Run → S → Type 0) → S → S → List Session → Fault → Type 0
AuditRefuses makes s t chain (Wrong k n record_fault) = FirstWrong makes s t chain k n record_fault
AuditRefuses makes s t chain NoSession = chain ≡ []
AuditRefuses makes s t chain Client = Unit {0}
AuditRefuses makes s t chain OutOfMemory = Unit {0}
