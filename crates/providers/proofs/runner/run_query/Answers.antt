use Rattle.std.proofs.Common.{refl}
use Rattle.recorder.proofs.Rules.{run_performed}
use Rattle.query_rules.specs.Meaning.{mean}
use Rattle.query_rules.specs.Reads.{reads}
use Rattle.providers.specs.Programs.{prog_of, steps_of}
use Rattle.providers.specs.Laws.{mini_java_tied, same_program}
use Rattle.providers.proofs.runner.run_query.Goals as goal

pub returns-clause-run : goal.returns-clause-run
returns-clause-run g c =
    let profile = c.args.profile in
    run_performed (mean profile) (reads profile) c.args.key.now (prog_of profile c.args.key.now) ((mini_java_tied profile).each c.args.key.now c.requires.no_input) c.args.recorder.now c.run_steps.new.recorder c.run_steps.result (record {
      unread = c.requires.unread;
      unrefused = c.requires.unrefused;
      step = steps_of profile c.args.key.now;
      whole = refl;
      ok = c.run_steps.ensures.ok;
      err = c.run_steps.ensures.err;
    })

pub returns-clause-across : goal.returns-clause-across
returns-clause-across g c = λ apart other.
    run_performed (mean other) (reads other) c.args.key.now (prog_of other c.args.key.now) ((mini_java_tied other).each c.args.key.now c.requires.no_input) c.args.recorder.now c.run_steps.new.recorder c.run_steps.result (record {
      unread = c.requires.unread;
      unrefused = c.requires.unrefused;
      step = steps_of c.args.profile c.args.key.now;
      whole = same_program c.args.profile other c.args.key.now apart;
      ok = c.run_steps.ensures.ok;
      err = c.run_steps.ensures.err;
    })
