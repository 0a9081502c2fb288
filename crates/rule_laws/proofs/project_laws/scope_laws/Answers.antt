use Rattle.rule_laws.proofs.Scopes.{one_method, one_main, not_both, one_scope}
use Rattle.rule_laws.proofs.project_laws.scope_laws.Goals as goal

pub returns : goal.returns
returns c = record { method = one_method; main = one_main; apart = not_both; scope = one_scope }
