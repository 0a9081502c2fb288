use Rattle.std.proofs.Common.{◌≤◌, List, [], length, rules, sym, subst, arith}
use Rattle.recorder.specs.Programs.{GivesUp, LoopAt, each}
use Rattle.recorder.proofs.Rules.{loop_start, loop_more, loop_up, loop_end}
use Rattle.member_queries.specs.Members.{Link, link_step}
use Rattle.member_queries.proofs.members.ask_links.Goals as goal

pub loop-class-init : goal.loop-class-init
loop-class-init g c = record {
  at = subst (λ (links : List Link). LoopAt link_step c.args.classes.now [] c.args.recorder.now 0 links c.args.recorder.now) (sym c.new-links.ensures.items) (loop_start link_step c.args.classes.now [] c.args.recorder.now);
  follows = g.met.D.Reader.reflexive _;
}

pub loop-class-preserved : goal.loop-class-preserved
loop-class-preserved g c = record {
  at = loop_more link_step c.args.classes.now [] c.args.recorder.now _ _ _ _ _ _ c.loop-class.invariant.at c.in_ok-ask_link.ensures.ok c.loop-class-test.true c.class-item.is;
  follows = g.met.D.Reader.transitive _ _ _ c.loop-class.invariant.follows c.in_ok-ask_link.ensures.follows;
}

pub returns-in_err-ask_link-clause-err : goal.returns-in_err-ask_link-clause-err
returns-in_err-ask_link-clause-err g c =
    let h : GivesUp (each link_step c.args.classes.now []) c.args.recorder.now c.in_err-ask_link.field-0.0 c.ask_link.new.recorder =
    loop_up link_step c.args.classes.now [] c.args.recorder.now _ _ _ _ _ _ c.loop-class.invariant.at c.in_err-ask_link.ensures.err c.loop-class-test.true c.class-item.is in
    search rules

pub returns-clause-ok : goal.returns-clause-ok
returns-clause-ok g c =
    let past : length c.args.classes.now ≤ c.loop-class.class-index = omega arith in
    loop_end link_step c.args.classes.now [] c.args.recorder.now _ _ _ c.loop-class.invariant.at past

pub returns-in_err-ask_link-clause-follows : goal.returns-in_err-ask_link-clause-follows
returns-in_err-ask_link-clause-follows g c = g.met.D.Reader.transitive _ _ _ c.loop-class.invariant.follows c.in_err-ask_link.ensures.follows
