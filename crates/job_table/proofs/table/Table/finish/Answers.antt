use Rattle.std.proofs.Common.{false, sym, ◌∙◌, ap, refl}
use Rattle.std.specs.Prelude.{IsTrue}
use Rattle.std.specs.Arc.{arc_value}
use Rattle.recorder.specs.Runs.{OutcomeValue}
use Rattle.graph_rules.specs.Steps.{Running}
use Rattle.job_table.proofs.CallRules.{not_standing, finish_other, finish_stale, held_in}
use Rattle.job_table.proofs.table.Table.finish.Goals as goal

not_true : IsTrue false → ⊥
not_true e = cc

pub returns-in_default : goal.returns-in_default
returns-in_default g c =
    let kept = c.self.invariant.0 in
    let ke = c.key.ensures ∙ ap (λ (o : OutcomeValue). o.key) c.deref.ensures in
    rw (← c.self.view_is) (
      sym kept.failed_is ∙ c.if-self.false,
      not_standing _ _ _ _ _ kept (arc_value c.args.outcome).key (Running c.args.w) tt (rw ke at c.in_default.ensures.none),
      refl,
    )

pub returns-then-not-is : goal.returns-then-not-is
returns-then-not-is g c =
    let ke = c.key.ensures ∙ ap (λ (o : OutcomeValue). o.key) c.deref.ensures in
    let pe = c.profile.ensures ∙ ap (λ (o : OutcomeValue). o.profile) c.deref-2.ensures in
    finish_other _ _ c.self.view_is _ _ c.self.invariant.0 (arc_value c.args.outcome) c.args.w c.if-self.false (rw ke at c.in-Some.ensures.running)
    (λ e. not_true (c.if-not-is.ensures.1 (pe ∙ e)))

pub returns-in-Some-first_stale : goal.returns-in-Some-first_stale
returns-in-Some-first_stale g c =
    let ke = c.key.ensures ∙ ap (λ (o : OutcomeValue). o.key) c.deref.ensures in
    let re = c.reads.ensures ∙ ap (λ (o : OutcomeValue). o.told) c.deref-3.ensures in
    let pe = c.profile.ensures ∙ ap (λ (o : OutcomeValue). o.profile) c.deref-2.ensures in
    finish_stale _ _ c.self.view_is _ _ c.self.invariant.0 (arc_value c.args.outcome) c.args.w c.in-Some-first_stale.i c.if-self.false (rw ke at c.in-Some.ensures.running) (sym pe ∙ c.if-not-is.ensures.0 refl) (rw re at c.in-Some-first_stale.ensures)

pub first_stale-requires : goal.first_stale-requires
first_stale-requires g c = c.self.invariant.0.inner

pub finish_held-requires : goal.finish_held-requires
finish_held-requires g c =
    let re = c.reads.ensures ∙ ap (λ (o : OutcomeValue). o.told) c.deref-3.ensures in
    held_in _ _ c.self.view_is _ _ c.self.invariant.0 _ (rw re at c.in_default-first_stale.ensures)
