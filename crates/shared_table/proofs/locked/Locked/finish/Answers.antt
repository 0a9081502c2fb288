use Rattle.std.proofs.Common.{sym, subst}
use Rattle.std.specs.Prelude.{Result}
use Rattle.std.specs.Arc.{arc_value}
use Rattle.item_ids.specs.declared.key.Key.{Key}
use Rattle.result_bytes.specs.declared.value.Value.{Value}
use Rattle.recorder.specs.Runs.{OutcomeValue}
use Rattle.graph_rules.specs.Steps.{IsDoneWith}
use Rattle.job_table.specs.Tables.{state_of}
use Rattle.job_table.specs.Calls.{FinishGives}
use Rattle.job_table.specs.declared.fault.TableFault.{TableFault}
use Rattle.shared_table.proofs.Told.{ended_done}
use Rattle.shared_table.proofs.locked.Locked.finish.Goals as goal

pub tell-requires : goal.tell-requires
tell-requires g c =
    let table = c.end-answer.new.self in
    let ran = arc_value c.args.outcome in
    let gives = subst (λ (r : Result (Unit {0}) TableFault). FinishGives c.args.self.now c.args.w ran r table) c.in-Ok.is c.end-answer.ensures in
    let done = ended_done c.args.w ran c.in-Ok.field-0 c.args.self.now table gives in
    let done = subst (λ (o : OutcomeValue). IsDoneWith o.value ((state_of table).at o.key)) (sym c.requires.same) done in
    let done = subst (λ (v : Value). IsDoneWith v ((state_of table).at c.args.ended.now.key)) (sym c.sealed.ensures.value) done in
    subst (λ (k : Key). IsDoneWith (arc_value c.sealed.result.now) ((state_of table).at k)) (sym c.key.ensures) done
