use Rattle.std.proofs.Common.{◌<◌, ◌≤◌, get_or, length, sym, subst, arith}
use Rattle.std.proofs.lemmas.Option.{slice_get-get_or}
use Rattle.sessions.specs.Sessions.{key_at}
use Rattle.audit_graph.specs.Plans.{executed_in}
use Rattle.audit_replay.specs.Reruns.{RefusesPlan}
use Rattle.audit_replay.proofs.LogRules.{log_refused}
use Rattle.audit_replay.proofs.OrderRules.{plan_executed, plan_refused, plan_replayed}
use Rattle.audit_replay.proofs.replay.plan.run_plan.Goals as goal

pub rerun_at-requires : goal.rerun_at-requires
rerun_at-requires g c =
    let plan = c.args.plan.now in
    let i = c.loop-n.n-index in
    let lt : i < length plan = omega arith in
    plan_executed c.args.session.now plan c.requires i (get_or plan i 0) (slice_get-get_or plan i 0 lt)

pub returns-in-Err-clause-refused : goal.returns-in-Err-clause-refused
returns-in-Err-clause-refused g c =
    let s = c.args.session.now in
    let plan = c.args.plan.now in
    let i = c.loop-n.n-index in
    let lt : i < length plan = omega arith in
    subst (RefusesPlan (g.R.Runner.queries.mean c.args.session.now.terms.profile) (g.R.Runner.queries.reads c.args.session.now.terms.profile) c.args.k s) (sym c.fault_of_run.ensures)
    (plan_refused (g.R.Runner.queries.mean c.args.session.now.terms.profile) (g.R.Runner.queries.reads c.args.session.now.terms.profile) s c.records-records.ensures.session plan c.requires c.args.k i (get_or plan i 0) (slice_get-get_or plan i 0 lt) c.loop-n.invariant.each c.in-Err.why c.in-Err.ensures.run)

pub returns-in-Err-clause-log : goal.returns-in-Err-clause-log
returns-in-Err-clause-log g c =
    let s = c.args.session.now in
    let plan = c.args.plan.now in
    let i = c.loop-n.n-index in
    let lt : i < length plan = omega arith in
    log_refused (key_at s.records) (executed_in s) plan c.requires i (get_or plan i 0) (g.R.Runner.log c.args.runner.now) (g.R.Runner.log c.loop-n.runner) (g.R.Runner.log c.rerun_at.new.runner)
    (slice_get-get_or plan i 0 lt) c.loop-n.invariant.log c.rerun_at.ensures.log

pub returns-clause-replayed : goal.returns-clause-replayed
returns-clause-replayed g c =
    let plan = c.args.plan.now in
    let le : length plan ≤ c.loop-n.n-index = omega arith in
    plan_replayed (g.R.Runner.queries.mean c.args.session.now.terms.profile) (g.R.Runner.queries.reads c.args.session.now.terms.profile) c.args.session.now plan c.requires c.loop-n.n-index le c.loop-n.invariant.each
