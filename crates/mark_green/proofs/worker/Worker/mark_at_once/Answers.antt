use Rattle.std.proofs.Common.{subst}
use Rattle.std.specs.Prelude.{Result}
use Rattle.std.specs.declared.alloc.Global.{Global}
use Rattle.std.specs.declared.sync.Arc.{Arc}
use Rattle.result_bytes.specs.declared.value.Value.{Value}
use Rattle.sessions.specs.Sessions.{session_in}
use Rattle.job_table.specs.Tables.{TableValue}
use Rattle.job_table.specs.Calls.{MarkGives}
use Rattle.job_table.specs.declared.fault.TableFault.{TableFault}
use Rattle.mark_green.specs.Leaves.{KnowsChange}
use Rattle.mark_green.proofs.GoingOn.{change_map}
use Rattle.mark_green.proofs.Calling.{try_done}
use Rattle.mark_green.proofs.worker.Worker.mark_at_once.Goals as goal

pub returns-in-Ok-clause-gives : goal.returns-in-Ok-clause-gives
returns-in-Ok-clause-gives g c =
    let w = c.args.self.now.id in
    let m = subst (λ (r : Result (Arc Value Global) TableFault). KnowsChange (λ (t u : TableValue). MarkGives t w c.args.key.now r u) (g.S.Store.table c.args.self.now.store.now) (g.S.Store.table c.mark.new.self)) c.in-Ok.is c.mark.ensures.gives in
    change_map _ _ (try_done w c.args.key.now c.in-Ok.sealed (session_in c.args.past.now)) _ _ m
