-- What close answers.
use Rattle.std.specs.Prelude.{◌≡◌, ℕ, false, true, Result, Ok, Err}
use Rattle.item_ids.specs.declared.key.Key.{Key}
use Rattle.item_ids.specs.declared.key.Key.TheVariants.{Answer}
use Rattle.sessions.specs.Sessions.{SessionValue}
use Rattle.graph_rules.specs.Steps.{State, IsHeldBy, IsDone, IsNotDone}
use Rattle.key_states.specs.Closing.{IsQuiet, IsClosing}
use Rattle.job_table.specs.Tables.{TableValue, state_of}
use Rattle.job_table.specs.declared.fault.CloseFault.{CloseFault}
use Rattle.job_table.specs.declared.fault.CloseFault.TheVariants as close

-- no key is claimed or running
abbrev pub AreQuiet : State → Type 0
AreQuiet s = (q : Key) → IsQuiet (s.at q)

-- a key that a worker has claimed or runs
pub record IsAtWork (s : State) : Type 0 where
  pub key : Key
  pub worker : ℕ
  pub held : IsHeldBy worker (s.at key)

-- no worker failed, no key is claimed or running, and Answer is done
abbrev pub MayClose : State → Type 0
MayClose s = (s.failed ≡ false) × AreQuiet s × IsDone (s.at Answer)

-- close: the session if it may be closed, else the first reason why not
abbrev pub CloseGives : TableValue → Result SessionValue CloseFault → Type 0
CloseGives t (Ok s) = MayClose (state_of t) × IsClosing t.terms t.past t.project (state_of t) s
CloseGives t (Err close.Failed) = (state_of t).failed ≡ true
CloseGives t (Err close.StillRunning) = ((state_of t).failed ≡ false) × IsAtWork (state_of t)
CloseGives t (Err close.NoAnswer) =
    ((state_of t).failed ≡ false) × AreQuiet (state_of t) × IsNotDone ((state_of t).at Answer)
CloseGives t (Err close.OutOfMemory) = MayClose (state_of t)
