use Rattle.profiles.specs.declared.profile.Profile.TheVariants.{One}
use Rattle.query_fixtures.proofs.steps.run_once.Goals as goal

pub returns-in-Err-clause-means : goal.returns-in-Err-clause-means
returns-in-Err-clause-means g c p project each = c.wanted.ensures (g.R.Runner.queries.mean One p) c.args.key.now
