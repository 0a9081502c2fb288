use Rattle.std.proofs.Common.{Contains, IfOk, subst}
use Rattle.std.specs.Arc.{arc_value}
use Rattle.std.specs.List.{AllByRecursion}
use Rattle.table_fixtures.proofs.runs.outcome_over.Goals as goal

pub returns-clause-read : goal.returns-clause-read
returns-clause-read c =
    subst (λ r. IfOk c.outcome_by.result (λ o. AllByRecursion (λ t. Contains r.inner t) (arc_value o).told)) c.new-recorder.ensures c.outcome_by.ensures.read
