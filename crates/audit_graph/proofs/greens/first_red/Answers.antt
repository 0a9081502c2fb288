use Rattle.std.proofs.Common.{◌<◌, length, arith}
use Rattle.sessions.specs.Sessions.{key_at, entry_at}
use Rattle.audit_graph.proofs.GreenRules.{red_here, red_more}
use Rattle.audit_graph.proofs.greens.first_red.Goals as goal

pub returns-then-not-same_print : goal.returns-then-not-same_print
returns-then-not-same_print c = λ all.
    let lt : c.loop-i.i < length c.args.edges.now = omega arith in
    red_here (key_at c.args.past.now.records) (key_at c.args.session.now.records) c.args.old.now c.args.edges.now (entry_at c.args.past.now) (entry_at c.args.session.now)
    all c.loop-i.i lt c.print.result.0 c.print_of.result.0 c.print.ensures c.print_of.ensures (c.loop-i.invariant all) c.if-not-same_print.ensures

pub loop-i-preserved : goal.loop-i-preserved
loop-i-preserved c = λ all.
    let lt : c.loop-i.i < length c.args.edges.now = omega arith in
    red_more (key_at c.args.past.now.records) (key_at c.args.session.now.records) c.args.old.now c.args.edges.now (entry_at c.args.past.now) (entry_at c.args.session.now)
    all c.loop-i.i lt c.print.result.0 c.print_of.result.0 c.print.ensures c.print_of.ensures (c.loop-i.invariant all) c.if-not-same_print.ensures
