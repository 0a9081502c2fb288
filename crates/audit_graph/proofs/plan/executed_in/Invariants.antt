use Rattle.std.proofs.Common.{◌≡◌, ◌++◌, drop}
use Rattle.audit_graph.specs.Plans.{executed_from, executed_in}
use Rattle.audit_graph.proofs.plan.executed_in.Given as goal

abbrev pub invariant-loop-i : goal.invariant-loop-i
invariant-loop-i l =
    executed_in l.session ≡ l.executed.items ++ executed_from l.i (drop l.i l.session.records)
