use Rattle.std.proofs.Common.{true, false, ◌∙◌}
use Rattle.graph_rules.proofs.SettingRules.{crossing_by}
use Rattle.audit_graph.proofs.greens.crosses.Goals as goal

pub returns-then-not-is : goal.returns-then-not-is
returns-then-not-is g c =
    c.by_profile.ensures
    ∙ crossing_by g.R.Runner.queries.by_profile c.args.session.now.terms.profile c.args.past.now c.args.kind false (rw (c.profile.ensures, c.terms.ensures) at c.if-not-is.ensures)

pub returns-else-not-is : goal.returns-else-not-is
returns-else-not-is g c =
    rw c.if-not-is.false
    (crossing_by g.R.Runner.queries.by_profile c.args.session.now.terms.profile c.args.past.now c.args.kind true (rw (c.profile.ensures, c.terms.ensures) at c.if-not-is.ensures))
