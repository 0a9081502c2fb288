use Rattle.std.proofs.Common.{rules, [], length, arith}
use Rattle.recorder.specs.Programs.{GivesUp}
use Rattle.member_queries.specs.Supers.{chain_steps}
use Rattle.member_queries.proofs.Climbs.{climb_start, climb_more, climb_over, climb_up, climb_end}
use Rattle.member_queries.proofs.supers.ask_chain.Goals as goal

pub loop-init : goal.loop-init
loop-init g c = record {
  at = climb_start c.args.rows.now c.args.first c.args.recorder.now _ c.new-ascent.ensures;
  follows = g.met.D.Reader.reflexive _;
}

pub loop-preserved : goal.loop-preserved
loop-preserved g c = record {
  at = climb_more c.args.rows.now c.args.first c.args.recorder.now c.loop.counter _ _ _ _ _ _ c.loop.invariant.at (rw c.in-At.is at c.in_ok-more.ensures.ok) (omega arith);
  follows = g.met.D.Reader.transitive _ _ _ c.loop.invariant.follows c.in_ok-more.ensures.follows;
}

pub returns-in_err-more-clause-err : goal.returns-in_err-more-clause-err
returns-in_err-more-clause-err g c =
    let h : GivesUp (chain_steps (length c.args.rows.now) c.args.rows.now [] c.args.first) c.args.recorder.now c.in_err-more.field-0.0 c.ask_next.new.recorder =
    climb_up c.args.rows.now c.args.first c.args.recorder.now c.loop.counter _ _ _ _ _ c.loop.invariant.at c.in_err-more.ensures.err (omega arith) in
    search rules

pub returns-in_err-more-clause-follows : goal.returns-in_err-more-clause-follows
returns-in_err-more-clause-follows g c = g.met.D.Reader.transitive _ _ _ c.loop.invariant.follows c.in_err-more.ensures.follows

pub returns-in-Over-clause-ok : goal.returns-in-Over-clause-ok
returns-in-Over-clause-ok g c =
    rw c.chain.ensures
    (climb_over c.args.rows.now c.args.first c.args.recorder.now c.loop.counter _ _ _ _ _ _ c.loop.invariant.at (rw c.in-Over.is at c.in_ok-more.ensures.ok) (omega arith))

pub returns-in-Over-clause-follows : goal.returns-in-Over-clause-follows
returns-in-Over-clause-follows g c = g.met.D.Reader.transitive _ _ _ c.loop.invariant.follows c.in_ok-more.ensures.follows

pub returns-clause-ok : goal.returns-clause-ok
returns-clause-ok g c =
    rw c.chain-2.ensures
    (climb_end c.args.rows.now c.args.first c.args.recorder.now c.loop.counter _ _ _ c.loop.invariant.at (omega arith))
