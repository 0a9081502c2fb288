use Rattle.kept_laws.proofs.Tests.{tests_decide}
use Rattle.kept_laws.proofs.laws.tests_decide.Goals as goal

pub returns : goal.returns
returns c = tests_decide
