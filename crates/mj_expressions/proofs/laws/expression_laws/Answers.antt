use Rattle.mj_expressions.proofs.ExpressionLaw.{expression_law}
use Rattle.mj_expressions.proofs.Stands.{stands_law}
use Rattle.mj_expressions.proofs.laws.expression_laws.Goals as goal

pub returns : goal.returns
returns c = record { expressions = expression_law; stands = stands_law }
