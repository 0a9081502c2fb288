use Rattle.std.proofs.Common.{◌∙◌, ◌<◌, sym, length, arith}
use Rattle.sessions.specs.Sessions.{key_at}
use Rattle.audit_graph.proofs.GreenRules.{same_more, same_there}
use Rattle.audit_graph.proofs.greens.are_same.Goals as goal

pub returns-then-not-same_key-clause-same : goal.returns-then-not-same_key-clause-same
returns-then-not-same_key-clause-same c = λ all.
    let i = c.loop-i.i in
    let lt : i < length c.args.edges.now = omega arith in
    let l : i < length c.args.old.now = omega (arith, lt, c.loop-i.invariant.as_long) in
    c.if-not-same_key.ensures
    (c.key.ensures ∙ (same_there (key_at c.args.past.now.records) (key_at c.args.session.now.records) c.args.old.now c.args.edges.now i l lt all ∙ sym c.key_of.ensures))

pub loop-i-preserved : goal.loop-i-preserved
loop-i-preserved c =
    let i = c.loop-i.i in
    let lt : i < length c.args.edges.now = omega arith in
    let l : i < length c.args.old.now = omega (arith, lt, c.loop-i.invariant.as_long) in
    record {
      as_long = c.loop-i.invariant.as_long;
      same = same_more (key_at c.args.past.now.records) (key_at c.args.session.now.records) c.args.old.now c.args.edges.now i l lt c.loop-i.invariant.same
          (sym c.key.ensures ∙ (c.if-not-same_key.ensures ∙ c.key_of.ensures));
    }
