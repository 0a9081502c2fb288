use Rattle.std.specs.Arc.{arc_value}
use Rattle.job_table.proofs.ReplayRules.{ask_step, mark_step, begin_step, finish_step, fail_step}
use Rattle.job_table.proofs.table.Table.step.Goals as goal

pub returns-in-Claim : goal.returns-in-Claim
returns-in-Claim g c =
    let f = ask_step c.args.self.now c.ask.new.self c.in-Claim.w _ c.ask.result c.ask.ensures in
    rw (c.in-Claim.is, c.by_ask.ensures) f

pub returns-in-Mark : goal.returns-in-Mark
returns-in-Mark g c =
    let f = mark_step c.args.self.now c.mark.new.self c.in-Mark.w _ c.mark.result c.mark.ensures in
    rw (c.in-Mark.is, c.by_mark.ensures) f

pub returns-in-Begin : goal.returns-in-Begin
returns-in-Begin g c =
    let f = begin_step c.args.self.now c.begin_run.new.self c.in-Begin.w _ c.begin_run.result c.begin_run.ensures in
    rw (c.in-Begin.is, c.by_call.ensures) f

pub returns-in-Ok : goal.returns-in-Ok
returns-in-Ok g c =
    let f = finish_step c.args.self.now c.finish.new.self c.in-Finish.w (arc_value c.in-Ok.own) c.finish.result c.finish.ensures in
    let e = rw c.in-Ok.ensures at f in
    rw (c.in-Finish.is, c.by_call-in-Ok.ensures) e

pub returns-in-Fail : goal.returns-in-Fail
returns-in-Fail g c =
    let f = fail_step c.args.self.now c.fail.new.self c.in-Fail.w c.fail.result c.fail.ensures in
    rw (c.in-Fail.is, c.by_call-in-Fail.ensures) f
