use Rattle.kept_results.proofs.Running.{body_performs}
use Rattle.kept_results.proofs.runner.perform_body.Goals as goal

pub returns-clause-performs : goal.returns-clause-performs
returns-clause-performs g c = body_performs c.args.profile c.args.key.now c.args.recorder.now c.check_body.new.recorder c.check_body.result c.requires.body c.check_body.ensures.performs
