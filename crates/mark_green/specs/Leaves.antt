-- What calls make of a table.
use Rattle.std.specs.Prelude.{◌≡◌, ◌≢◌, ◌⊎◌, ℕ, ◌<◌, true, false, List, ◌++◌, Option, Some, None, Result, Ok}
use Rattle.std.specs.List.{AllByRecursion}
use Rattle.std.specs.Arc.{arc_value}
use Rattle.item_ids.specs.declared.key.Key.{Key}
use Rattle.item_ids.specs.Inputs.{rank}
use Rattle.result_bytes.specs.declared.value.Value.{Value}
use Rattle.recorder.specs.Backed.{ReadValue}
use Rattle.graph_rules.specs.Steps.{Status, Event, AreSteps, IsHeldBy}
use Rattle.job_table.specs.Tables.{TableValue, past_of, state_of}
use Rattle.job_table.specs.declared.fault.Asked.{Asked}
use Rattle.job_table.specs.declared.fault.Asked.TheVariants as asked
use Rattle.job_table.specs.declared.fault.TableFault.{TableFault}

-- what is known of a table, if anything is known of it
abbrev pub Knows : (TableValue → Type 0) → Option TableValue → Type 0
Knows P None = Unit {0}
Knows P (Some t) = P t

-- what is known of a table before and after, if anything is known of it
abbrev pub KnowsChange : (TableValue → TableValue → Type 0) → Option TableValue → Option TableValue
    → Type 0
KnowsChange P None None = Unit {0}
KnowsChange P None (Some u) = ⊥
KnowsChange P (Some t) None = ⊥
KnowsChange P (Some t) (Some u) = P t u

-- a key that is to be worked on is no input
abbrev pub ClaimsNoInput : Key → Result Asked TableFault → Type 0
ClaimsNoInput q r = r ≡ Ok asked.Yours → 0 < rank q

-- what a store has given for a key stays given
abbrev pub StaysTold : (Key → Value → Type 0) → (Key → Value → Type 0) → Type 0
StaysTold old new = (q : Key) (v : Value) → old q v → new q v

-- the result of a key that was found done is given
abbrev pub TellsDone : (Key → Value → Type 0) → Key → Result Asked TableFault → Type 0
TellsDone told q (Ok (asked.Done a)) = told q (arc_value a)
TellsDone told q _ = Unit {0}

-- each result that was read was given
abbrev pub AreTold : (Key → Value → Type 0) → List ReadValue → Type 0
AreTold told reads = AllByRecursion (λ r. told r.key r.value) reads

-- the history continues by steps
pub record GoesOn (t u : TableValue) : Type 0 where
  pub terms : u.terms ≡ t.terms
  pub past : u.past ≡ t.past
  pub crossing : u.crossing ≡ t.crossing
  pub project : u.project ≡ t.project
  pub more : List Event
  pub history : u.history ≡ t.history ++ more
  pub steps : AreSteps (past_of t) (state_of t) more

-- the history continues by steps, the last of which is a worker's failure, unless one failed before
pub record Stops (t u : TableValue) : Type 0 where
  pub goes_on : GoesOn t u
  pub failed : (state_of u).failed ≡ true

-- what each worker had claimed or ran, it still has
abbrev pub Stays : TableValue → TableValue → Type 0
Stays t u = (k : Key) (w : ℕ) → IsHeldBy w ((state_of t).at k)
    → (state_of u).at k ≡ (state_of t).at k

-- the same, but for the key q
abbrev pub StaysBut : Key → TableValue → TableValue → Type 0
StaysBut q t u = (k : Key) (w : ℕ) → k ≢ q → IsHeldBy w ((state_of t).at k)
    → (state_of u).at k ≡ (state_of t).at k

-- a worker gave up, and else each key is as it was
pub record WorkerGivesUp (t u : TableValue) : Type 0 where
  pub stops : Stops t u
  pub same : (k : Key) → (state_of u).at k ≡ (state_of t).at k

-- The history continues by steps in which nobody failed, and just the keys that were claimed or
-- running before still are, by the same workers.
pub record LeavesClaims (t u : TableValue) : Type 0 where
  pub goes_on : GoesOn t u
  pub failed : (state_of u).failed ≡ (state_of t).failed
  pub stays : Stays t u
  pub held : (k : Key) (w : ℕ) → IsHeldBy w ((state_of u).at k)
      → (state_of u).at k ≡ (state_of t).at k

-- The same, but for the key q, which a worker had and which is done now.
pub record LeavesBut (q : Key) (t u : TableValue) : Type 0 where
  pub goes_on : GoesOn t u
  pub failed : (state_of u).failed ≡ (state_of t).failed
  pub stays : StaysBut q t u
  pub held : (k : Key) (w : ℕ) → IsHeldBy w ((state_of u).at k)
      → (state_of u).at k ≡ (state_of t).at k

-- another worker has claimed a key, or runs it
pub record IsOthers (t : TableValue) (w : ℕ) : Type 0 where
  pub key : Key
  pub worker : ℕ
  pub other : worker ≢ w
  pub holds : IsHeldBy worker ((state_of t).at key)

-- Nobody failed, the key has this status by this worker, and all of the worker's other keys are of
-- higher rank.
pub record HasStatus (x : Status) (w : ℕ) (q : Key) (t : TableValue) : Type 0 where
  pub failed : (state_of t).failed ≡ false
  pub at : (state_of t).at q ≡ x
  pub mine : IsHeldBy w x
  pub above : (k : Key) → IsHeldBy w ((state_of t).at k) → (k ≡ q) ⊎ (rank q < rank k)
