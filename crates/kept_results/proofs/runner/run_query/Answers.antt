use Rattle.kept_results.proofs.Running.{performed_follows, performed_is_run}
use Rattle.kept_results.proofs.runner.run_query.Goals as goal

pub returns-clause-along : goal.returns-clause-along
returns-clause-along g c = performed_follows c.args.profile c.args.key.now c.args.recorder.now c.perform.new.recorder c.perform.result c.perform.ensures.performs

pub returns-clause-run : goal.returns-clause-run
returns-clause-run g c = performed_is_run c.args.profile c.args.key.now c.args.recorder.now c.perform.new.recorder c.perform.result c.requires.no_input c.perform.ensures.performs
