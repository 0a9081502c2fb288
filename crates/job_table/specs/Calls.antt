-- What each call answers, decided by the state before it, and what becomes of the table.
use Rattle.std.specs.Prelude.{◌≡◌, ◌≢◌, ℕ, zero, suc, Bool, true, false, Result, Ok, Err, Option, Some, None, List, [], ◌∷◌}
use Rattle.std.specs.declared.alloc.Global.{Global}
use Rattle.std.specs.declared.sync.Arc.{Arc}
use Rattle.std.specs.Arc.{arc_value}
use Rattle.item_ids.specs.declared.kind.Kind.{Kind}
use Rattle.item_ids.specs.declared.key.Key.{Key}
use Rattle.item_ids.specs.Keys.{kind_of}
use Rattle.result_bytes.specs.declared.value.Value.{Value}
use Rattle.recorder.specs.Projects.{Project}
use Rattle.recorder.specs.Backed.{ReadValue}
use Rattle.recorder.specs.Runs.{OutcomeValue}
use Rattle.sessions.specs.declared.terms.Terms.{Terms}
use Rattle.sessions.specs.Sessions.{Entry, SessionValue, past_entry}
use Rattle.graph_rules.specs.Settings.{has_kind, crossing_kinds}
use Rattle.graph_rules.specs.Steps.{Unknown, Claimed, Running, Claim, MarkGreen, Begin, Finish, Fail, State, Walk, AllUnchanged, OpenAt, ChangedAt, IsDoneWith, IsNotDone, IsBelow, IsOwn, past_walk}
use Rattle.key_states.specs.Closing.{IsFull}
use Rattle.job_table.specs.Tables.{TableValue, past_of, state_of, IsStep, adds}
use Rattle.job_table.specs.declared.fault.Asked.{Asked}
use Rattle.job_table.specs.declared.fault.Asked.TheVariants as asked
use Rattle.job_table.specs.declared.fault.TableFault.{TableFault}
use Rattle.job_table.specs.declared.fault.TableFault.TheVariants as fault
use Rattle.job_table.specs.declared.fault.OpenFault.{OpenFault}
use Rattle.job_table.specs.declared.fault.OpenFault.TheVariants as opens

-- a table without events
abbrev pub opened : (Kind → Bool) → Terms → Option SessionValue → Project → TableValue
opened by_profile terms past p = record {
  terms = terms;
  past = past;
  crossing = crossing_kinds by_profile terms.profile past;
  project = p;
  history = [];
}

-- open: a table without events, unless no session can follow the previous session
abbrev pub OpenGives
    : (Kind → Bool) → Terms → Option SessionValue → Project → Result TableValue OpenFault → Type 0
OpenGives by_profile terms past p (Ok t) = ¬ IsFull past × (t ≡ opened by_profile terms past p)
OpenGives by_profile terms past p (Err opens.ChainFull) = IsFull past
OpenGives by_profile terms past p (Err opens.OutOfMemory) = ¬ IsFull past

-- no worker failed, and the key isn't done
abbrev pub IsWanted : TableValue → Key → Type 0
IsWanted t q = ((state_of t).failed ≡ false) × IsNotDone ((state_of t).at q)

-- no worker failed, and w has claimed the key
abbrev pub IsClaimed : TableValue → ℕ → Key → Type 0
IsClaimed t w q = ((state_of t).failed ≡ false) × ((state_of t).at q ≡ Claimed w)

-- no worker failed, and w runs the key
abbrev pub IsRunning : TableValue → ℕ → Key → Type 0
IsRunning t w q = ((state_of t).failed ≡ false) × ((state_of t).at q ≡ Running w)

-- ask: only Yours changes the table, by a claim; memory is taken for a claim, and to hand out a
-- result
abbrev pub AskGives : TableValue → ℕ → Key → Result Asked TableFault → TableValue → Type 0
AskGives t w q (Ok asked.Stopped) u = ((state_of t).failed ≡ true) × (u ≡ t)
AskGives t w q (Ok (asked.Done v)) u =
    ((state_of t).failed ≡ false) × IsDoneWith (arc_value v) ((state_of t).at q) × (u ≡ t)
AskGives t w q (Err fault.OutOfRank) u = IsWanted t q × IsOwn (state_of t) w q × (u ≡ t)
AskGives t w q (Ok asked.Busy) u =
    IsWanted t q × IsBelow (state_of t) w q × ((state_of t).at q ≡ Unknown → ⊥) × (u ≡ t)
AskGives t w q (Ok asked.Yours) u = IsStep t (Claim w q) × (u ≡ adds t (Claim w q))
AskGives t w q (Err fault.OutOfMemory) u =
    ((state_of t).failed ≡ false) × (IsNotDone ((state_of t).at q) → IsStep t (Claim w q)) × (u ≡ t)
AskGives t w q (Err _) u = ⊥

-- how the walk over the key's previous edges ends, if it may be taken over
abbrev pub walk_in : TableValue → Key → Option Walk
walk_in t q = past_walk (past_of t) (state_of t) q

-- mark: it answers the previous session's result, with which the key is done
abbrev pub MarkGives : TableValue → ℕ → Key → Result (Arc Value Global) TableFault → TableValue
    → Type 0
MarkGives t w q (Ok v) u =
    IsStep t (MarkGreen w q) × (u ≡ adds t (MarkGreen w q))
    × IsDoneWith (arc_value v) ((state_of u).at q)
MarkGives t w q (Err fault.Failed) u = ((state_of t).failed ≡ true) × (u ≡ t)
MarkGives t w q (Err fault.NotYours) u =
    ((state_of t).failed ≡ false) × ((state_of t).at q ≡ Claimed w → ⊥) × (u ≡ t)
MarkGives t w q (Err fault.NotInPast) u = IsClaimed t w q × (past_entry t.past q ≡ None) × (u ≡ t)
MarkGives t w q (Err fault.AcrossProfiles) u =
    IsClaimed t w q × ((had : Entry) × (past_entry t.past q ≡ Some had))
    × (has_kind t.crossing (kind_of q) ≡ true) × (u ≡ t)
MarkGives t w q (Err (fault.EdgeOpen i)) u =
    IsClaimed t w q × (walk_in t q ≡ Some (OpenAt i)) × (u ≡ t)
MarkGives t w q (Err (fault.EdgeChanged i)) u =
    IsClaimed t w q × (walk_in t q ≡ Some (ChangedAt i)) × (u ≡ t)
MarkGives t w q (Err fault.OutOfMemory) u = IsStep t (MarkGreen w q) × (u ≡ t)
MarkGives t w q (Err _) u = ⊥

-- begin_run: the key runs, unless its record in the previous session can be marked, or an edge of it isn't done
-- yet; memory is taken for the event
abbrev pub BeginGives : TableValue → ℕ → Key → Result (Unit {0}) TableFault → TableValue → Type 0
BeginGives t w q (Ok _) u = IsStep t (Begin w q) × (u ≡ adds t (Begin w q))
BeginGives t w q (Err fault.Failed) u = ((state_of t).failed ≡ true) × (u ≡ t)
BeginGives t w q (Err fault.NotYours) u =
    ((state_of t).failed ≡ false) × ((state_of t).at q ≡ Claimed w → ⊥) × (u ≡ t)
BeginGives t w q (Err (fault.EdgeOpen i)) u =
    IsClaimed t w q × (walk_in t q ≡ Some (OpenAt i)) × (u ≡ t)
BeginGives t w q (Err fault.NothingChanged) u =
    IsClaimed t w q × (walk_in t q ≡ Some AllUnchanged) × (u ≡ t)
BeginGives t w q (Err fault.OutOfMemory) u = IsStep t (Begin w q) × (u ≡ t)
BeginGives t w q (Err _) u = ⊥

-- the read at this place is the first whose key isn't done with the value that was read
abbrev pub IsFirstStale : State → List ReadValue → ℕ → Type 0
IsFirstStale s [] i = ⊥
IsFirstStale s (r ∷ rs) zero = ¬ IsDoneWith r.value (s.at r.key)
IsFirstStale s (r ∷ rs) (suc i) = IsDoneWith r.value (s.at r.key) × IsFirstStale s rs i

-- finish: the key is done with the outcome, unless that is of another profile, or another value was read than the
-- key has; memory is taken for the event and the edges
abbrev pub FinishGives : TableValue → ℕ → OutcomeValue → Result (Unit {0}) TableFault → TableValue
    → Type 0
FinishGives t w o (Ok _) u = IsStep t (Finish w o) × (u ≡ adds t (Finish w o))
FinishGives t w o (Err fault.Failed) u = ((state_of t).failed ≡ true) × (u ≡ t)
FinishGives t w o (Err fault.NotYours) u =
    ((state_of t).failed ≡ false) × ((state_of t).at o.key ≡ Running w → ⊥) × (u ≡ t)
FinishGives t w o (Err fault.OtherProfile) u =
    IsRunning t w o.key × (o.profile ≢ t.terms.profile) × (u ≡ t)
FinishGives t w o (Err (fault.StaleRead i)) u =
    IsRunning t w o.key × (o.profile ≡ t.terms.profile) × IsFirstStale (state_of t) o.told i × (u ≡ t)
FinishGives t w o (Err fault.OutOfMemory) u = IsStep t (Finish w o) × (u ≡ t)
FinishGives t w o (Err _) u = ⊥

-- fail: it takes no memory
abbrev pub FailGives : TableValue → ℕ → Result (Unit {0}) TableFault → TableValue → Type 0
FailGives t w (Ok _) u = IsStep t (Fail w) × (u ≡ adds t (Fail w))
FailGives t w (Err fault.Failed) u = ((state_of t).failed ≡ true) × (u ≡ t)
FailGives t w (Err _) u = ⊥
