use Rattle.std.proofs.Common.{◌<◌, length, get_or, arith, refl}
use Rattle.sessions.proofs.EdgeLaws.{false_true, so_far_next, bad_here}
use Rattle.sessions.proofs.checks.first_bad_edge.Goals as goal

pub returns-then-not-admitted-clause-cases : goal.returns-then-not-admitted-clause-cases
returns-then-not-admitted-clause-cases c =
    let edges = c.args.edges.now in
    let lt : c.loop-j.j < length edges = omega arith in
    bad_here c.loop-j.seen c.args.front.now c.args.key.now edges c.loop-j.j (get_or edges c.loop-j.j 0) lt refl c.loop-j.invariant (λ new. false_true c.admit-admitted.result c.if-not-admitted.true (c.admit-admitted.ensures.admitted.1 new))

pub loop-j-preserved : goal.loop-j-preserved
loop-j-preserved c =
    let edges = c.args.edges.now in
    let lt : c.loop-j.j < length edges = omega arith in
    so_far_next c.loop-j.seen c.admit-admitted.new.self c.args.front.now c.args.key.now edges c.loop-j.j (get_or edges c.loop-j.j 0) lt refl c.loop-j.invariant (c.admit-admitted.ensures.admitted.0 c.if-not-admitted.false) (rw c.if-not-admitted.false at c.admit-admitted.ensures.seen)
