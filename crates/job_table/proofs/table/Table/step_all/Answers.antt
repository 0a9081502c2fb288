use Rattle.std.proofs.Common.{◌<◌, length, arith, ap}
use Rattle.std.proofs.lemmas.List.{take_all}
use Rattle.job_table.specs.Tables.{with_history}
use Rattle.job_table.specs.Kept.{event_of}
use Rattle.job_table.proofs.ReplayRules.{split_events, length_front, first_illegal, table_after, legal_after}
use Rattle.job_table.proofs.table.Table.step_all.Goals as goal

pub loop-i-init : goal.loop-i-init
loop-i-init g c = record { done = ap (with_history c.args.self.now) c.requires; legal = tt }

pub loop-i-preserved : goal.loop-i-preserved
loop-i-preserved g c =
    let lt : c.loop-i.i < length c.args.events.now = omega arith in
    record {
      done = table_after c.args.self.now c.args.events.now c.loop-i.i c.index-events-i.result c.loop-i.self lt c.index-events-i.is c.loop-i.invariant.done c.step.new.self c.in-Ok.ensures.1;
      legal = legal_after c.args.self.now c.args.events.now c.loop-i.i c.index-events-i.result c.loop-i.self lt c.index-events-i.is c.loop-i.invariant.done c.loop-i.invariant.legal c.in-Ok.ensures.0;
    }

pub returns : goal.returns
returns g c =
    let all = take_all c.loop-i.i c.args.events.now c.loop-i-test.false in
    let legal = rw all at c.loop-i.invariant.legal in
    let done = rw all at c.loop-i.invariant.done in
    (legal, done)

pub returns-in-Err-NoStep : goal.returns-in-Err-NoStep
returns-in-Err-NoStep g c =
    let lt : c.loop-i.i < length c.args.events.now = omega arith in
    let no_step = rw c.in-Err-NoStep.field-0-is at c.in-Err-NoStep.ensures in
    first_illegal c.args.self.now _ _ (event_of c.index-events-i.result) _ c.loop-i.i c.loop-i.self
    (split_events c.args.events.now c.loop-i.i c.index-events-i.result lt c.index-events-i.is)
    (length_front c.args.events.now c.loop-i.i lt)
    c.loop-i.invariant.done c.loop-i.invariant.legal
    no_step.0
