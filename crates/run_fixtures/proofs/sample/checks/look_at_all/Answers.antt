use Rattle.std.proofs.Common.{rules, false}
use Rattle.recorder.specs.Programs.{GivesUp, each}
use Rattle.recorder.proofs.Rules.{loop_more, loop_up}
use Rattle.run_fixtures.specs.Programs.{main_step}
use Rattle.run_fixtures.proofs.sample.checks.look_at_all.Goals as goal

pub loop-name-preserved : goal.loop-name-preserved
loop-name-preserved g c = record {
  at = loop_more main_step c.args.names.now false c.args.recorder.now _ _ _ _ _ _ c.loop-name.invariant.at c.in_ok-found.ensures.ok c.loop-name-test.true c.name-item.is;
  follows = g.met.D.Reader.transitive _ _ _ c.loop-name.invariant.follows c.in_ok-found.ensures.follows;
}

pub returns-in_err-found-clause-err : goal.returns-in_err-found-clause-err
returns-in_err-found-clause-err g c =
    let h : GivesUp (each main_step c.args.names.now false) c.args.recorder.now c.in_err-found.field-0.0 c.look_at.new.recorder =
    loop_up main_step c.args.names.now false c.args.recorder.now _ _ _ _ _ _ c.loop-name.invariant.at c.in_err-found.ensures.err c.loop-name-test.true c.name-item.is in
    search rules
