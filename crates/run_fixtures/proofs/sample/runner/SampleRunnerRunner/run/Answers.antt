use Rattle.std.proofs.Common.{refl}
use Rattle.recorder.proofs.Rules.{run_performed}
use Rattle.run_fixtures.specs.Meaning.{sample_mean}
use Rattle.run_fixtures.specs.Programs.{sample_reads, prog_of, steps_of}
use Rattle.run_fixtures.specs.Tie.{sample_tied}
use Rattle.run_fixtures.proofs.sample.runner.SampleRunnerRunner.run.Goals as goal

pub returns-clause-run : goal.returns-clause-run
returns-clause-run g c =
    run_performed sample_mean sample_reads c.args.key.now (prog_of c.args.key.now) (sample_tied.each c.args.key.now c.requires.no_input) c.args.recorder.now c.run_kind.new.recorder c.run_kind.result (record {
      unread = c.requires.unread;
      unrefused = c.requires.unrefused;
      step = steps_of c.args.key.now;
      whole = refl;
      ok = c.run_kind.ensures.ok;
      err = c.run_kind.ensures.err;
    })

pub returns-clause-across : goal.returns-clause-across
returns-clause-across g c = λ apart other. returns-clause-run g c
