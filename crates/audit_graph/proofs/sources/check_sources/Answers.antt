use Rattle.std.proofs.Common.{◌∙◌}
use Rattle.audit_graph.proofs.SourceRules.{has_sources}
use Rattle.audit_graph.proofs.sources.check_sources.Goals as goal

pub returns-in-Ok-None : goal.returns-in-Ok-None
returns-in-Ok-None c =
    has_sources c.args.session.now c.records-records.ensures.session c.in-Some.names.now c.in-Some.ensures.fit c.in-Some.ensures.held
    (rw (c.deref.ensures.value ∙ c.in-Ok.ensures) at c.in_default-first_missing.ensures)
    (rw c.in-Ok-None.field-0-is at (rw (c.deref-2.ensures.value ∙ c.in-Ok.ensures) at c.in-Ok-None.ensures))
