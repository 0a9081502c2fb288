use Rattle.std.proofs.Common.{rules}
use Rattle.audit_graph.proofs.step.check_step.Goals as goal

pub returns-in-Ok-clause-gives : goal.returns-in-Ok-clause-gives
returns-in-Ok-clause-gives g c =
    let h = c.if-not-is_linked.ensures.linked in
    (record { linked = search (rules, h); sources = search rules; greens = c.in_default-first_lack.ensures }, c.in-Ok.ensures)
