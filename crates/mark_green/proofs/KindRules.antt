-- The results that a table gives are of their keys' kinds.
use Rattle.std.proofs.Common.{◌≡◌, ℕ, subst}
use Rattle.std.specs.Prelude.{Result, Ok, Err, IfOk}
use Rattle.std.specs.declared.alloc.Global.{Global}
use Rattle.std.specs.declared.sync.Arc.{Arc}
use Rattle.std.specs.Arc.{arc_value}
use Rattle.item_ids.specs.declared.key.Key.{Key}
use Rattle.result_bytes.specs.declared.value.Value.{Value}
use Rattle.result_bytes.specs.Values.{IsOfKind}
use Rattle.graph_rules.specs.Steps.{State, Status, Unknown, Claimed, Running, Done, IsDoneWith}
use Rattle.graph_rules.specs.Sound.{IsInOrder, IsInOrderAt}
use Rattle.job_table.specs.Tables.{TableValue, state_of}
use Rattle.job_table.specs.Calls.{AskGives, MarkGives}
use Rattle.job_table.specs.declared.fault.Asked.{Asked}
use Rattle.job_table.specs.declared.fault.Asked.TheVariants as asked
use Rattle.job_table.specs.declared.fault.TableFault.{TableFault}
use Rattle.mark_green.specs.Leaves.{TellsDone}

kind_at : (s : State) (q : Key) (v : Value) (x : Status) → IsInOrderAt s q x → IsDoneWith v x → IsOfKind q v
kind_at s q v Unknown order done = absurd done
kind_at s q v (Claimed w) order done = absurd done
kind_at s q v (Running w) order done = absurd done
kind_at s q v (Done x es m) order done = subst (IsOfKind q) done order.kind

-- the value that a key is done with is of its kind
pub done_kind : (s : State) (q : Key) (v : Value) → IsInOrder s → IsDoneWith v (s.at q) → IsOfKind q v
done_kind s q v order done = kind_at s q v (s.at q) (order q) done

pub asked_kind : (w : ℕ) (q : Key) (r : Result Asked TableFault) (t u : TableValue) → IsInOrder (state_of t) → AskGives t w q r u → TellsDone IsOfKind q r
asked_kind w q (Ok (asked.Done a)) t u order gives = done_kind (state_of t) q (arc_value a) order gives.1
asked_kind w q (Ok asked.Yours) t u order gives = tt
asked_kind w q (Ok asked.Busy) t u order gives = tt
asked_kind w q (Ok asked.Stopped) t u order gives = tt
asked_kind w q (Err f) t u order gives = tt

pub marked_kind : (w : ℕ) (q : Key) (r : Result (Arc Value Global) TableFault) (t u : TableValue) → IsInOrder (state_of u) → MarkGives t w q r u → IfOk r (λ a. IsOfKind q (arc_value a))
marked_kind w q (Ok a) t u order gives = done_kind (state_of u) q (arc_value a) order gives.2
marked_kind w q (Err f) t u order gives = tt
