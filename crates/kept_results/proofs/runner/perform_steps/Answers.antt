use Rattle.kept_results.proofs.Running.{steps_perform}
use Rattle.kept_results.proofs.runner.perform_steps.Goals as goal

pub returns-clause-performs : goal.returns-clause-performs
returns-clause-performs g c = steps_perform c.args.profile c.args.key.now c.args.recorder.now c.run_steps.new.recorder c.run_steps.result c.requires.unread c.requires.unrefused c.run_steps.ensures.ok c.run_steps.ensures.err
