use Rattle.std.proofs.Common.{◌≡◌, [], ◌∷◌, ◌++◌, map, false, arith, sym, ◌∙◌, ap, subst, refl}
use Rattle.std.specs.Prelude.{IsTrue}
use Rattle.std.specs.Arc.{arc_value}
use Rattle.profiles.specs.declared.profile.Profile.{Profile}
use Rattle.recorder.specs.Runs.{OutcomeValue, IsOutcome}
use Rattle.graph_rules.specs.Steps.{Running, Finish}
use Rattle.job_table.specs.Kept.{event_of}
use Rattle.job_table.proofs.StepRules.{backed_last}
use Rattle.job_table.proofs.CallRules.{not_standing, finish_other, finish_at, finish_kept, held_at}
use Rattle.job_table.proofs.table.Table.finish_held.Given.{Over}
use Rattle.job_table.proofs.table.Table.finish_held.Goals as goal

pub returns-in_default : goal.returns-in_default
returns-in_default g c =
    let kept = c.self.invariant.0 in
    let ke = c.key.ensures ∙ ap (λ (o : OutcomeValue). o.key) c.deref.ensures in
    rw (← c.self.view_is) (
      sym kept.failed_is ∙ c.if-stopped.false,
      not_standing _ _ _ _ _ kept (arc_value c.args.outcome).key (Running c.args.w) tt (rw ke at c.in_default.ensures.none),
      refl,
    )

not_true : IsTrue false → ⊥
not_true e = cc

pub returns-then-not-is : goal.returns-then-not-is
returns-then-not-is g c =
    let ke = c.key.ensures ∙ ap (λ (o : OutcomeValue). o.key) c.deref.ensures in
    let pe = c.profile.ensures ∙ ap (λ (o : OutcomeValue). o.profile) c.deref-2.ensures in
    finish_other _ _ c.self.view_is _ _ c.self.invariant.0 (arc_value c.args.outcome) c.args.w c.if-stopped.false (rw ke at c.in-Some.ensures.running)
    (λ e. not_true (c.if-not-is.ensures.1 (pe ∙ e)))

pub returns-in_default-room_for_finish : goal.returns-in_default-room_for_finish
returns-in_default-room_for_finish g c =
    let ke = c.key.ensures ∙ ap (λ (o : OutcomeValue). o.key) c.deref.ensures in (
      finish_at _ _ c.self.view_is _ _ c.self.invariant.0 (arc_value c.args.outcome) c.args.w c.if-stopped.false (rw ke at c.in-Some.ensures.running) (sym (c.profile.ensures ∙ ap (λ (o : OutcomeValue). o.profile) c.deref-2.ensures) ∙ c.if-not-is.ensures.0 refl) (held_at _ _ c.self.view_is _ _ c.self.invariant.0 _ c.requires),
      rw (← c.self.view_is, c.room_for_finish.ensures.history.0) refl,
    )

-- the history after the event
events_after : (g : Over) (c : goal.After-note g) → map event_of c.note.new.history.items ≡ map event_of c.self.inside.history.items ++ Finish c.args.w (arc_value c.args.outcome) ∷ []
events_after g c = rw (c.note.ensures.events, c.room_for_finish.ensures.history.0) refl

pub invariant_of-self-2 : goal.invariant_of-self-2
invariant_of-self-2 g c =
    let i = c.self.inside in
    let o = arc_value c.args.outcome in
    let ke = c.key.ensures ∙ ap (λ (o : OutcomeValue). o.key) c.deref.ensures in
    let r = c.in-Some-room_for_finish.ensures in
    let own = sym (c.profile.ensures ∙ ap (λ (o : OutcomeValue). o.profile) c.deref-2.ensures) ∙ c.if-not-is.ensures.0 refl in
    let edges = rw c.deref-3.ensures at r.edges in
    let value = rw c.deref-3.ensures at r.value in
    let back = rw c.deref-3.ensures at c.room_for_finish.ensures.outcome in
    rw (events_after g c) (
      finish_kept _ _ _ _ _ c.self.invariant.0 _ o c.args.w _ c.if-stopped.false (rw ke at c.in-Some.ensures.running) (sym (c.profile.ensures ∙ ap (λ (o : OutcomeValue). o.profile) c.deref-2.ensures) ∙ c.if-not-is.ensures.0 refl) (held_at _ _ c.self.view_is _ _ c.self.invariant.0 _ c.requires) (rw (edges, value) refl) c.put.ensures.apart
          (λ k. c.put.ensures.written o.key k (rw ke at c.in-Some.ensures.some.0)),
      backed_last (g.R.Runner.queries.mean i.terms.profile) (g.R.Runner.queries.reads i.terms.profile) (map event_of i.history.items) (Finish c.args.w o) c.self.invariant.1
          (subst (λ (a : Profile). IsOutcome (g.R.Runner.queries.mean a) (g.R.Runner.queries.reads a) o) own back),
      (λ _. omega (arith, c.note.ensures.len, c.note.ensures.capacity, r.room, c.room_for_finish.ensures.history.1)),
      c.self.invariant.3,
    )

pub returns : goal.returns
returns g c =
    let ke = c.key.ensures ∙ ap (λ (o : OutcomeValue). o.key) c.deref.ensures in (
      finish_at _ _ c.self.view_is _ _ c.self.invariant.0 (arc_value c.args.outcome) c.args.w c.if-stopped.false (rw ke at c.in-Some.ensures.running) (sym (c.profile.ensures ∙ ap (λ (o : OutcomeValue). o.profile) c.deref-2.ensures) ∙ c.if-not-is.ensures.0 refl) (held_at _ _ c.self.view_is _ _ c.self.invariant.0 _ c.requires),
      rw (← c.self.view_is, events_after g c) refl,
    )
