use Rattle.std.proofs.Common.{◌<◌, ◌≤◌, length, arith}
use Rattle.std.specs.Option.{option_copied}
use Rattle.audit_graph.specs.Steps.{setting_behind}
use Rattle.audit_graph.proofs.GreenRules.{lack_here, stands_more, greens_stand}
use Rattle.audit_graph.proofs.greens.first_lack.Goals as goal

pub returns-in-Some : goal.returns-in-Some
returns-in-Some g c =
    let value = c.records-item-items.ensures.value in
    let lt : c.loop-n.n < length c.records-item-items.result.now = omega arith in
    lack_here (setting_behind g.R.Runner.queries.by_profile (option_copied c.args.past) c.args.session.now) c.args.session.now c.loop-n.n c.item-item.result (rw value at lt) (rw value at c.item-item.is) c.loop-n.invariant
    c.in-Some.why c.in-Some.ensures.0 c.in-Some.ensures.1

pub loop-n-preserved : goal.loop-n-preserved
loop-n-preserved g c =
    let value = c.records-item-items.ensures.value in
    let lt : c.loop-n.n < length c.records-item-items.result.now = omega arith in
    stands_more (setting_behind g.R.Runner.queries.by_profile (option_copied c.args.past) c.args.session.now) c.args.session.now c.loop-n.n c.item-item.result (rw value at lt) (rw value at c.item-item.is) c.loop-n.invariant
    c.in_default.ensures

pub returns : goal.returns
returns g c =
    let value = c.records-item-items.ensures.value in
    let le : length c.records-item-items.result.now ≤ c.loop-n.n = omega arith in
    greens_stand (setting_behind g.R.Runner.queries.by_profile (option_copied c.args.past) c.args.session.now) c.args.session.now c.loop-n.n (rw value at le) c.loop-n.invariant
