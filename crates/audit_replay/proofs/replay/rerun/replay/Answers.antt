use Rattle.std.proofs.Common.{◌<◌, sym, subst}
use Rattle.std.specs.Prelude.{Result, Ok, Err, OnOk}
use Rattle.item_ids.specs.declared.key.Key.{Key}
use Rattle.item_ids.specs.Inputs.{rank}
use Rattle.recorder.specs.Runs.{Logs}
use Rattle.recorder.specs.declared.runner.RunFault.TheVariants.{OutOfMemory}
use Rattle.audit_replay.proofs.LogRules.{logs_either, logs_ok}
use Rattle.audit_replay.proofs.OrderRules.{rank_above, edges_inside}
use Rattle.audit_replay.proofs.replay.rerun.replay.Goals as goal

on_ok : {A E : Type 0} (P : Type 0) (r : Result A E) → P → OnOk r P
on_ok P (Ok x) p = p
on_ok P (Err e) p = tt

pub record_sharing-requires-clause-no_input : goal.record_sharing-requires-clause-no_input
record_sharing-requires-clause-no_input g c =
    subst (λ (k : Key). 0 < rank k) (sym c.key.ensures)
    (rank_above c.args.session.now c.records-records.ensures.session c.requires.executed.at c.args.item.now c.requires.executed.here c.requires.executed.mark)

pub compare-requires-clause-inside : goal.compare-requires-clause-inside
compare-requires-clause-inside g c =
    edges_inside c.args.session.now c.records-records.ensures.session c.requires.executed.at c.args.item.now c.requires.executed.here

pub refused_read-requires-clause-inside : goal.refused_read-requires-clause-inside
refused_read-requires-clause-inside g c =
    edges_inside c.args.session.now c.records-records.ensures.session c.requires.executed.at c.args.item.now c.requires.executed.here

pub returns-in-Ok-clause-ok : goal.returns-in-Ok-clause-ok
returns-in-Ok-clause-ok g c =
    on_ok (Logs c.args.item.now.key (g.R.Runner.log c.args.runner.now) (g.R.Runner.log c.record_sharing.new.runner)) c.compare.result
    (logs_ok _ c.in-Ok.outcome OutOfMemory c.record_sharing.result c.in-Ok.is c.args.item.now.key c.key.result.now (g.R.Runner.log c.args.runner.now) (g.R.Runner.log c.record_sharing.new.runner) c.key.ensures c.record_sharing.ensures.log)

pub returns-in-Ok-clause-log : goal.returns-in-Ok-clause-log
returns-in-Ok-clause-log g c =
    logs_either _ _ c.args.item.now.key c.key.result.now (g.R.Runner.log c.args.runner.now) (g.R.Runner.log c.record_sharing.new.runner) c.key.ensures c.record_sharing.ensures.log

pub returns-in-Err-OutOfMemory-clause-log : goal.returns-in-Err-OutOfMemory-clause-log
returns-in-Err-OutOfMemory-clause-log g c =
    logs_either _ _ c.args.item.now.key c.key.result.now (g.R.Runner.log c.args.runner.now) (g.R.Runner.log c.record_sharing.new.runner) c.key.ensures c.record_sharing.ensures.log

pub returns-in-Err-Read-clause-log : goal.returns-in-Err-Read-clause-log
returns-in-Err-Read-clause-log g c =
    logs_either _ _ c.args.item.now.key c.key.result.now (g.R.Runner.log c.args.runner.now) (g.R.Runner.log c.record_sharing.new.runner) c.key.ensures c.record_sharing.ensures.log
