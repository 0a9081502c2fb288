use Rattle.std.proofs.Common.{map, false}
use Rattle.sessions.specs.Sessions.{session_in}
use Rattle.graph_rules.specs.Settings.{setting_of}
use Rattle.graph_rules.specs.Steps.{Fail}
use Rattle.job_table.specs.Kept.{event_of, StandsByHistory}
use Rattle.job_table.proofs.StepRules.{kept_fail, backed_last}
use Rattle.job_table.proofs.table.Table.fail.Goals as goal

pub invariant_of-self : goal.invariant_of-self
invariant_of-self g c =
    let i = c.self.inside in
    let kept = c.self.invariant.0 in
    let over = setting_of g.R.Runner.queries.by_profile i.terms.profile (session_in i.past) in
    let no_fail : StandsByHistory over _ i.nodes false (map event_of i.history.items) = rw c.if-self.false at kept in
    let h = c.note.ensures.events in
    rw h (
      kept_fail over _ i.nodes (map event_of i.history.items) c.args.w no_fail,
      backed_last (g.R.Runner.queries.mean i.terms.profile) (g.R.Runner.queries.reads i.terms.profile) (map event_of i.history.items) (Fail c.args.w) c.self.invariant.1 tt,
      (λ e. absurd (cc)),
      c.self.invariant.3,
    )
