use Rattle.std.proofs.Common.{subst}
use Rattle.std.specs.Prelude.{Result}
use Rattle.std.specs.declared.alloc.Global.{Global}
use Rattle.std.specs.declared.sync.Arc.{Arc}
use Rattle.result_bytes.specs.declared.value.Value.{Value}
use Rattle.job_table.specs.Tables.{TableValue}
use Rattle.job_table.specs.Calls.{MarkGives}
use Rattle.job_table.specs.declared.fault.TableFault.{TableFault}
use Rattle.mark_green.specs.Leaves.{KnowsChange}
use Rattle.mark_green.proofs.GoingOn.{change_map, change_then}
use Rattle.mark_green.proofs.Calling.{mark_ok, mark_ended}
use Rattle.mark_green.proofs.worker.Worker.mark.Goals as goal

pub returns-in-Ok-clause-gives : goal.returns-in-Ok-clause-gives
returns-in-Ok-clause-gives g c =
    let m = subst (λ (r : Result (Arc Value Global) TableFault). KnowsChange (λ (t u : TableValue). MarkGives t c.args.self.now.id c.args.key.now r u) (g.S.Store.table c.args.self.now.store.now) (g.S.Store.table c.mark.new.self)) c.in-Ok.is c.mark.ensures.gives in
    change_map _ _ (mark_ok c.args.self.now.id c.args.key.now c.in-Ok.sealed) _ _ m

pub returns-in-Err-clause-gives : goal.returns-in-Err-clause-gives
returns-in-Err-clause-gives g c =
    let m = subst (λ (r : Result (Arc Value Global) TableFault). KnowsChange (λ (t u : TableValue). MarkGives t c.args.self.now.id c.args.key.now r u) (g.S.Store.table c.args.self.now.store.now) (g.S.Store.table c.mark.new.self)) c.in-Err.is c.mark.ensures.gives in
    change_then _ _ _ (mark_ended c.args.self.now.id c.args.key.now c.in-Err.fault c.give_up.result c.give_up.ensures.fault) _ _ _ m c.give_up.ensures.stops
