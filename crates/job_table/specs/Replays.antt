-- What a replay answers.
use Rattle.std.specs.Prelude.{◌≡◌, ℕ, Bool, Result, Ok, Err, Option, List, ◌∷◌, ◌++◌, length}
use Rattle.std.specs.declared.alloc.Global.{Global}
use Rattle.std.specs.declared.sync.Arc.{Arc}
use Rattle.item_ids.specs.declared.kind.Kind.{Kind}
use Rattle.result_bytes.specs.declared.value.Value.{Value}
use Rattle.recorder.specs.Projects.{Project}
use Rattle.sessions.specs.declared.terms.Terms.{Terms}
use Rattle.sessions.specs.Sessions.{SessionValue}
use Rattle.graph_rules.specs.Settings.{Setting, setting_of}
use Rattle.graph_rules.specs.Steps.{Event, MayStep, Legal, state_after}
use Rattle.key_states.specs.Closing.{IsFull}
use Rattle.job_table.specs.Calls.{opened}
use Rattle.job_table.specs.Tables.{TableValue, past_of, IsStep, with_history, adds}
use Rattle.job_table.specs.declared.fault.Asked.{Asked}
use Rattle.job_table.specs.declared.fault.Asked.TheVariants as asked
use Rattle.job_table.specs.declared.fault.TableFault.{TableFault}
use Rattle.job_table.specs.declared.fault.TableFault.TheVariants as fault
use Rattle.job_table.specs.declared.fault.StepFault.{StepFault}
use Rattle.job_table.specs.declared.fault.StepFault.TheVariants as step
use Rattle.job_table.specs.declared.fault.ReplayFault.{ReplayFault}
use Rattle.job_table.specs.declared.fault.ReplayFault.TheVariants as replay

-- what the answer of a call says of its event
abbrev pub refusal_of : TableFault → StepFault
refusal_of fault.OutOfMemory = step.OutOfMemory
refusal_of _ = step.NoStep

abbrev pub step_of_ask : Result Asked TableFault → Result (Unit {0}) StepFault
step_of_ask (Ok asked.Yours) = Ok tt
step_of_ask (Ok _) = Err step.NoStep
step_of_ask (Err f) = Err (refusal_of f)

abbrev pub step_of_mark : Result (Arc Value Global) TableFault → Result (Unit {0}) StepFault
step_of_mark (Ok v) = Ok tt
step_of_mark (Err f) = Err (refusal_of f)

abbrev pub step_of_call : Result (Unit {0}) TableFault → Result (Unit {0}) StepFault
step_of_call (Ok v) = Ok tt
step_of_call (Err f) = Err (refusal_of f)

-- an event is done exactly if it is a step, unless memory runs out
abbrev pub StepGives : TableValue → Event → Result (Unit {0}) StepFault → TableValue → Type 0
StepGives t e (Ok _) u = IsStep t e × (u ≡ adds t e)
StepGives t e (Err step.NoStep) u = ¬ IsStep t e × (u ≡ t)
StepGives t e (Err step.OutOfMemory) u = u ≡ t

-- the event at this place is the first that is no step
pub record IsFirstIllegal (over : Setting) (p : Project) (events : List Event) (i : ℕ) : Type 0 where
  pub front : List Event
  pub event : Event
  pub rest : List Event
  pub whole : events ≡ front ++ event ∷ rest
  pub place : length front ≡ i
  pub legal : Legal over p front
  pub illegal : ¬ MayStep over (state_after over p front) event

-- events in turn, in a table that has none: all of them if they are legal, else those before the first that is
-- no step
abbrev pub StepsGive : TableValue → List Event → Result (Unit {0}) ReplayFault → TableValue → Type 0
StepsGive t events (Ok _) u =
    Legal (past_of t) t.project events
    × (u ≡ with_history t events)
StepsGive t events (Err (replay.Illegal i)) u = IsFirstIllegal (past_of t) t.project events i
StepsGive t events (Err replay.ChainFull) u = ⊥
StepsGive t events (Err replay.OutOfMemory) u = Unit {0}

-- replay: a table of just these events if they are legal, else the first that is no step
abbrev pub ReplayGives : (Kind → Bool) → Terms → Option SessionValue → Project → List Event
    → Result TableValue ReplayFault → Type 0
ReplayGives by_profile terms past p events (Ok t) =
    ¬ IsFull past × Legal (setting_of by_profile terms.profile past) p events
    × (t ≡ with_history (opened by_profile terms past p) events)
ReplayGives by_profile terms past p events (Err (replay.Illegal i)) =
    ¬ IsFull past × IsFirstIllegal (setting_of by_profile terms.profile past) p events i
ReplayGives by_profile terms past p events (Err replay.ChainFull) = IsFull past
ReplayGives by_profile terms past p events (Err replay.OutOfMemory) = ¬ IsFull past
