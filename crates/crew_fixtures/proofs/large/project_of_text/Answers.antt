use Rattle.std.proofs.Common.{ap, ◌∙◌}
use Rattle.named_files.specs.Projects.{names_of}
use Rattle.crew_fixtures.proofs.large.project_of_text.Goals as goal

pub returns : goal.returns
returns c = ap names_of c.in_ok-project.ensures ∙ c.in_ok-files.ensures
