use Rattle.mj_phrases.specs.Table.{method_scope}
use Rattle.rule_laws.proofs.Wells.{expression_law, statement_law, return_law, throughout_law, method_within, within_method}
use Rattle.rule_laws.proofs.phrase_laws.well_laws.Goals as goal

pub returns : goal.returns
returns c = record {
  expression = expression_law;
  statement = statement_law;
  return_value = return_law;
  throughout = throughout_law;
  method = λ w class m. (method_within w (method_scope class m) m, within_method w (method_scope class m) m);
}
