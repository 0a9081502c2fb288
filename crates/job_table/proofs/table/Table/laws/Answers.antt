use Rattle.std.proofs.Common.{map, subst}
use Rattle.sessions.specs.Sessions.{session_in}
use Rattle.graph_rules.specs.Settings.{setting_of}
use Rattle.graph_rules.specs.Steps.{state_after}
use Rattle.graph_rules.specs.Sound.{IsInOrder}
use Rattle.graph_rules.proofs.Keeping.{sound_history, in_order}
use Rattle.job_table.specs.Tables.{TableValue, state_of}
use Rattle.job_table.specs.Kept.{event_of}
use Rattle.job_table.proofs.table.Table.laws.Goals as goal

pub returns-clause-order : goal.returns-clause-order
returns-clause-order g c =
    let i = c.self.inside in
    let mean = g.R.Runner.queries.mean i.terms.profile in
    let reads = g.R.Runner.queries.reads i.terms.profile in
    let over = setting_of g.R.Runner.queries.by_profile i.terms.profile (session_in i.past) in
    let h = map event_of i.history.items in
    let sound = sound_history mean reads over i.inputs h c.self.invariant.0.legal c.self.invariant.1 in
    subst (λ (t : TableValue). IsInOrder (state_of t)) c.self.view_is (in_order mean reads over i.inputs c.check_past.ensures (state_after over i.inputs h) sound)
