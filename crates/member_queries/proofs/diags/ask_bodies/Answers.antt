use Rattle.std.proofs.Common.{◌≤◌, List, length, rules, sym, subst, arith}
use Rattle.mj_answer.specs.declared.diagnostic.Diagnostic.{Diagnostic}
use Rattle.answer_bytes.specs.Storable.{AreClassFaults}
use Rattle.recorder.specs.Programs.{GivesUp, LoopAt, each}
use Rattle.recorder.proofs.Rules.{loop_start, loop_more, loop_up, loop_end}
use Rattle.member_queries.specs.Diags.{body_step}
use Rattle.member_queries.proofs.diags.ask_bodies.Goals as goal

pub loop-body-init : goal.loop-body-init
loop-body-init g c = record {
  at = subst (λ (faults : List Diagnostic). LoopAt (body_step c.args.class.now) c.args.bodies.now c.args.start.now c.args.recorder.now 0 faults c.args.recorder.now) (sym c.in_ok-faults.ensures)
      (loop_start (body_step c.args.class.now) c.args.bodies.now c.args.start.now c.args.recorder.now);
  places = subst AreClassFaults (sym c.in_ok-faults.ensures) c.requires;
  follows = g.met.D.Reader.reflexive _;
}

pub loop-body-preserved : goal.loop-body-preserved
loop-body-preserved g c = record {
  at = loop_more (body_step c.args.class.now) c.args.bodies.now c.args.start.now c.args.recorder.now _ _ _ _ _ _ c.loop-body.invariant.at c.in_ok-ask_body.ensures.ok c.loop-body-test.true c.body-item.is;
  places = c.in_ok-ask_body.ensures.places;
  follows = g.met.D.Reader.transitive _ _ _ c.loop-body.invariant.follows c.in_ok-ask_body.ensures.follows;
}

pub returns-in_err-ask_body-clause-err : goal.returns-in_err-ask_body-clause-err
returns-in_err-ask_body-clause-err g c =
    let h : GivesUp (each (body_step c.args.class.now) c.args.bodies.now c.args.start.now) c.args.recorder.now c.in_err-ask_body.field-0.0 c.ask_body.new.recorder =
    loop_up (body_step c.args.class.now) c.args.bodies.now c.args.start.now c.args.recorder.now _ _ _ _ _ _ c.loop-body.invariant.at c.in_err-ask_body.ensures.err c.loop-body-test.true c.body-item.is in
    search rules

pub returns-clause-ok : goal.returns-clause-ok
returns-clause-ok g c =
    let past : length c.args.bodies.now ≤ c.loop-body.body-index = omega arith in
    loop_end (body_step c.args.class.now) c.args.bodies.now c.args.start.now c.args.recorder.now _ _ _ c.loop-body.invariant.at past

pub returns-in_err-ask_body-clause-follows : goal.returns-in_err-ask_body-clause-follows
returns-in_err-ask_body-clause-follows g c = g.met.D.Reader.transitive _ _ _ c.loop-body.invariant.follows c.in_err-ask_body.ensures.follows

pub returns-clause-places : goal.returns-clause-places
returns-clause-places g c = c.loop-body.invariant.places
