use Rattle.std.proofs.Common.{◌∙◌, sym}
use Rattle.std.specs.Arc.{arc_value}
use Rattle.profiles.specs.declared.profile.Profile.TheVariants.{One}
use Rattle.graph_rules.proofs.KeyRules.{above, input_means}
use Rattle.query_fixtures.proofs.steps.step_of.Goals as goal

pub run_over-requires : goal.run_over-requires
run_over-requires g c = record { no_input = above c.args.inputs.now c.args.key.now c.in-None.ensures }

pub returns-in_ok-try_clone-in-Some-clause-means : goal.returns-in_ok-try_clone-in-Some-clause-means
returns-in_ok-try_clone-in-Some-clause-means g c =
    c.in_ok-try_clone-in-Some.ensures ∙ sym (input_means (g.R.Runner.queries.mean One) (g.R.Runner.queries.reads One) (g.met.R.Runner.laws.each One) c.args.inputs.now c.requires.project c.args.key.now (arc_value c.in-Some.sealed.now) c.in-Some.ensures)
