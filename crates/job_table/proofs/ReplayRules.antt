-- Events in turn, and what calls say of them.
use Rattle.std.proofs.Common.{◌≡◌, ◌<◌, ℕ, List, [], ◌∷◌, ◌++◌, take, drop, map, length, get_or, suc, zero, ap, sym, ◌∙◌, ◌+◌, subst, refl, arith, true≢false}
use Rattle.std.proofs.lemmas.List.{take_more}
use Rattle.std.specs.Prelude.{Result, Ok, Err, Option, Some, None}
use Rattle.std.specs.declared.alloc.Global.{Global}
use Rattle.std.specs.declared.sync.Arc.{Arc}
use Rattle.std.specs.Arc.{arc_value}
use Rattle.item_ids.specs.declared.key.Key.{Key}
use Rattle.result_bytes.specs.declared.value.Value.{Value}
use Rattle.recorder.specs.Backed.{ReadValue}
use Rattle.recorder.specs.Runs.{OutcomeValue}
use Rattle.graph_rules.specs.Steps.{Status, State, Event, Claim, MarkGreen, Begin, Finish, Fail, Walk, AllUnchanged, OpenAt, ChangedAt, IsDoneWith, MayRun, AreHeld, Legal}
use Rattle.job_table.specs.declared.event.Event.{Event as StoredEvent}
use Rattle.job_table.specs.declared.fault.Asked.{Asked}
use Rattle.job_table.specs.declared.fault.Asked.TheVariants as asked
use Rattle.job_table.specs.declared.fault.TableFault.{TableFault}
use Rattle.job_table.specs.declared.fault.TableFault.TheVariants as fault
use Rattle.job_table.specs.Kept.{event_of}
use Rattle.job_table.specs.Tables.{TableValue, past_of, state_of, IsStep, with_history, adds}
use Rattle.job_table.specs.Calls.{AskGives, MarkGives, BeginGives, FinishGives, FailGives, IsFirstStale}
use Rattle.job_table.proofs.EventRules.{events_last}
use Rattle.job_table.proofs.StepRules.{legal_last}
use Rattle.graph_rules.proofs.SettingRules.{kept_none, kept_across}
use Rattle.job_table.proofs.CallRules.{walk_none}
use Rattle.job_table.specs.Replays.{StepGives, step_of_ask, step_of_mark, step_of_call, IsFirstIllegal}

-- a list of events is those before a place, the one there, and the others
pub split_events : {R : Type 0} (es : List (StoredEvent R)) (i : ℕ) (e : StoredEvent R) → i < length es → e ≡ get_or es i e
    → map event_of es ≡ map event_of (take i es) ++ event_of e ∷ map event_of (drop (suc i) es)
split_events [] i e lt is = absurd (omega arith)
split_events (x ∷ es) zero e lt is = rw is refl
split_events (x ∷ es) (suc i) e lt is = ap (λ (zs : List Event). event_of x ∷ zs) (split_events es i e (omega arith) is)

pub length_front : {R : Type 0} (es : List (StoredEvent R)) (i : ℕ) → i < length es → length (map event_of (take i es)) ≡ i
length_front [] i lt = absurd (omega arith)
length_front (x ∷ es) zero lt = refl
length_front (x ∷ es) (suc i) lt = ap suc (length_front es i (omega arith))

-- a list of events as far as a place, and the event there, are those before the next place
events_front : {R : Type 0} (es : List (StoredEvent R)) (i : ℕ) (e : StoredEvent R) → i < length es → e ≡ get_or es i e
    → map event_of (take i es) ++ event_of e ∷ [] ≡ map event_of (take (i + 1) es)
events_front {R} es i e lt is = sym (ap (map event_of) front ∙ events_last (take i es) e)
  where
    front : take (i + 1) es ≡ take i es ++ e ∷ []
    front = take_more es i e lt ∙ ap (λ (y : StoredEvent R). take i es ++ y ∷ []) (sym is)

-- the table v behind one more event, which is a step
module _ {R : Type 0} (v : TableValue) (es : List (StoredEvent R)) (i : ℕ) (e : StoredEvent R) (t : TableValue) (lt : i < length es) (is : e ≡ get_or es i e) (te : t ≡ with_history v (map event_of (take i es))) where
  pub table_after : (u : TableValue) → u ≡ adds t (event_of e) → u ≡ with_history v (map event_of (take (i + 1) es))
  table_after u ue = ue ∙ (ap (λ (x : TableValue). adds x (event_of e)) te ∙ ap (with_history v) (events_front es i e lt is))

  pub legal_after : Legal (past_of v) v.project (map event_of (take i es)) → IsStep t (event_of e) → Legal (past_of v) v.project (map event_of (take (i + 1) es))
  legal_after legal step = subst (λ (h : List Event). Legal (past_of v) v.project h) (events_front es i e lt is)
      (legal_last (past_of v) v.project (map event_of (take i es)) (event_of e) legal (subst (λ (x : TableValue). IsStep x (event_of e)) te step))

-- the event behind a legal front that is no step is the first one
pub first_illegal : (v : TableValue) (events front : List Event) (e : Event) (rest : List Event) (i : ℕ) (t : TableValue)
    → events ≡ front ++ e ∷ rest → length front ≡ i → t ≡ with_history v front → Legal (past_of v) v.project front
    → (IsStep t e → ⊥) → IsFirstIllegal (past_of v) v.project events i
first_illegal v events front e rest i t whole place te legal stuck = record {
  front = front;
  event = e;
  rest = rest;
  whole = whole;
  place = place;
  legal = legal;
  illegal = subst (λ (u : TableValue). IsStep u e → ⊥) te stuck;
}

stale_not : (s : State) (rs : List ReadValue) (i : ℕ) → IsFirstStale s rs i → AreHeld s rs → ⊥
stale_not s [] i h a = h
stale_not s (r ∷ rs) zero h a = h a.0
stale_not s (r ∷ rs) (suc i) h a = stale_not s rs i h.1 a.1

-- what an answer of ask says of its event
pub ask_step : (t u : TableValue) (w : ℕ) (q : Key) (r : Result Asked TableFault) → AskGives t w q r u → StepGives t (Claim w q) (step_of_ask r) u
ask_step t u w q (Ok asked.Yours) h = h
ask_step t u w q (Ok (asked.Done v)) h = ((λ m. subst (λ (x : Status). IsDoneWith (arc_value v) x) m.1 h.1), h.2)
ask_step t u w q (Ok asked.Busy) h = ((λ m. h.2 m.1), h.3)
ask_step t u w q (Ok asked.Stopped) h = ((λ m. true≢false (sym h.0 ∙ m.0)), h.1)
ask_step t u w q (Err fault.OutOfRank) h = ((λ m. h.1.not_above (m.2 h.1.key h.1.held)), h.2)
ask_step t u w q (Err fault.OutOfMemory) h = h.2
ask_step t u w q (Err fault.NotYours) h = absurd h
ask_step t u w q (Err fault.NotInPast) h = absurd h
ask_step t u w q (Err fault.NothingChanged) h = absurd h
ask_step t u w q (Err fault.Failed) h = absurd h
ask_step t u w q (Err (fault.EdgeOpen i)) h = absurd h
ask_step t u w q (Err (fault.EdgeChanged i)) h = absurd h
ask_step t u w q (Err (fault.StaleRead i)) h = absurd h
ask_step t u w q (Err fault.AcrossProfiles) h = absurd h
ask_step t u w q (Err fault.OtherProfile) h = absurd h

none_not : (o : Option Walk) → o ≡ None → o ≡ Some AllUnchanged → ⊥
none_not o n a = cc

open_not : (o : Option Walk) (i : ℕ) → o ≡ Some (OpenAt i) → o ≡ Some AllUnchanged → ⊥
open_not o i n a = cc

changed_not : (o : Option Walk) (i : ℕ) → o ≡ Some (ChangedAt i) → o ≡ Some AllUnchanged → ⊥
changed_not o i n a = cc

-- what an answer of mark says of its event
pub mark_step : (t u : TableValue) (w : ℕ) (q : Key) (r : Result (Arc Value Global) TableFault) → MarkGives t w q r u → StepGives t (MarkGreen w q) (step_of_mark r) u
mark_step t u w q (Ok v) h = (h.0, h.1)
mark_step t u w q (Err fault.Failed) h = ((λ m. true≢false (sym h.0 ∙ m.0)), h.1)
mark_step t u w q (Err fault.NotYours) h = ((λ m. h.1 m.1), h.2)
mark_step t u w q (Err fault.NotInPast) h = ((λ m. none_not _ (walk_none (past_of t) (state_of t) q (kept_none (past_of t) q h.1)) m.2), h.2)
mark_step t u w q (Err fault.AcrossProfiles) h = ((λ m. none_not _ (walk_none (past_of t) (state_of t) q (kept_across (past_of t) q h.2)) m.2), h.3)
mark_step t u w q (Err (fault.EdgeOpen i)) h = ((λ m. open_not _ i h.1 m.2), h.2)
mark_step t u w q (Err (fault.EdgeChanged i)) h = ((λ m. changed_not _ i h.1 m.2), h.2)
mark_step t u w q (Err fault.OutOfMemory) h = h.1
mark_step t u w q (Err fault.OutOfRank) h = absurd h
mark_step t u w q (Err fault.NothingChanged) h = absurd h
mark_step t u w q (Err (fault.StaleRead i)) h = absurd h
mark_step t u w q (Err fault.OtherProfile) h = absurd h

-- what an answer of begin_run says of its event
pub begin_step : (t u : TableValue) (w : ℕ) (q : Key) (r : Result (Unit {0}) TableFault) → BeginGives t w q r u → StepGives t (Begin w q) (step_of_call r) u
begin_step t u w q (Ok x) h = h
begin_step t u w q (Err fault.Failed) h = ((λ m. true≢false (sym h.0 ∙ m.0)), h.1)
begin_step t u w q (Err fault.NotYours) h = ((λ m. h.1 m.1), h.2)
begin_step t u w q (Err (fault.EdgeOpen i)) h = ((λ m. subst MayRun h.1 m.2), h.2)
begin_step t u w q (Err fault.NothingChanged) h = ((λ m. subst MayRun h.1 m.2), h.2)
begin_step t u w q (Err fault.OutOfMemory) h = h.1
begin_step t u w q (Err fault.OutOfRank) h = absurd h
begin_step t u w q (Err fault.NotInPast) h = absurd h
begin_step t u w q (Err (fault.EdgeChanged i)) h = absurd h
begin_step t u w q (Err (fault.StaleRead i)) h = absurd h
begin_step t u w q (Err fault.AcrossProfiles) h = absurd h
begin_step t u w q (Err fault.OtherProfile) h = absurd h

-- what an answer of finish says of its event
pub finish_step : (t u : TableValue) (w : ℕ) (o : OutcomeValue) (r : Result (Unit {0}) TableFault) → FinishGives t w o r u → StepGives t (Finish w o) (step_of_call r) u
finish_step t u w o (Ok x) h = h
finish_step t u w o (Err fault.Failed) h = ((λ m. true≢false (sym h.0 ∙ m.0)), h.1)
finish_step t u w o (Err fault.NotYours) h = ((λ m. h.1 m.1), h.2)
finish_step t u w o (Err fault.OtherProfile) h = ((λ m. h.1 m.3), h.2)
finish_step t u w o (Err (fault.StaleRead i)) h = ((λ m. stale_not (state_of t) o.told i h.2 m.2), h.3)
finish_step t u w o (Err fault.OutOfMemory) h = h.1
finish_step t u w o (Err fault.OutOfRank) h = absurd h
finish_step t u w o (Err fault.NotInPast) h = absurd h
finish_step t u w o (Err fault.NothingChanged) h = absurd h
finish_step t u w o (Err (fault.EdgeOpen i)) h = absurd h
finish_step t u w o (Err (fault.EdgeChanged i)) h = absurd h
finish_step t u w o (Err fault.AcrossProfiles) h = absurd h

-- what an answer of fail says of its event
pub fail_step : (t u : TableValue) (w : ℕ) (r : Result (Unit {0}) TableFault) → FailGives t w r u → StepGives t (Fail w) (step_of_call r) u
fail_step t u w (Ok x) h = h
fail_step t u w (Err fault.Failed) h = ((λ m. true≢false (sym h.0 ∙ m)), h.1)
fail_step t u w (Err fault.NotYours) h = absurd h
fail_step t u w (Err fault.OutOfRank) h = absurd h
fail_step t u w (Err fault.NotInPast) h = absurd h
fail_step t u w (Err fault.NothingChanged) h = absurd h
fail_step t u w (Err (fault.EdgeOpen i)) h = absurd h
fail_step t u w (Err (fault.EdgeChanged i)) h = absurd h
fail_step t u w (Err (fault.StaleRead i)) h = absurd h
fail_step t u w (Err fault.AcrossProfiles) h = absurd h
fail_step t u w (Err fault.OtherProfile) h = absurd h
fail_step t u w (Err fault.OutOfMemory) h = absurd h
