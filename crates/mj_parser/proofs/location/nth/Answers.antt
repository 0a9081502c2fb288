use Rattle.std.proofs.Common.{◌∙◌, sym, arith, slice_get}
use Rattle.mj_parser.specs.Locations.{all_of}
use Rattle.mj_parser.proofs.Locations.{here, one_less, passes}
use Rattle.mj_parser.proofs.location.nth.Goals as goal
use Rattle.mj_parser.proofs.location.nth.Goals.{then-has+else-left-eq0, else-has}

-- src/location.rt:22:5
pub loop-at-preserved : goal.loop-at-preserved
loop-at-preserved c = elim c.if-has.branch [
  | then-has+else-left-eq0 w ↦ (rw w.left-is (one_less c.args.tokens.now c.args.terminal c.args.end c.loop-at.at c.loop-at.left (slice_get (all_of c.args.tokens.now c.args.terminal c.args.start c.args.end) c.args.number) (omega arith) (sym c.has.ensures.value ∙ w.if-has.true) w.if-left-eq0.false c.loop-at.invariant))
  | else-has w ↦ (rw w.left-is (passes c.args.tokens.now c.args.terminal c.args.end c.loop-at.at c.loop-at.left (slice_get (all_of c.args.tokens.now c.args.terminal c.args.start c.args.end) c.args.number) (omega arith) (sym c.has.ensures.value ∙ w.if-has.false) c.loop-at.invariant))
]

-- src/location.rt:25:17
pub returns-then-left-eq0-clause-value : goal.returns-then-left-eq0-clause-value
returns-then-left-eq0-clause-value c = here c.args.tokens.now c.args.terminal c.args.end c.loop-at.at c.loop-at.left (slice_get (all_of c.args.tokens.now c.args.terminal c.args.start c.args.end) c.args.number) (omega arith) (sym c.has.ensures.value ∙ c.if-has.true) c.if-left-eq0.true c.loop-at.invariant
