use Rattle.std.proofs.Common.{map, false, sym, ◌∙◌, refl}
use Rattle.std.specs.Prelude.{IsTrue}
use Rattle.graph_rules.specs.Steps.{Claim}
use Rattle.job_table.specs.Kept.{event_of}
use Rattle.job_table.proofs.StepRules.{may_claim, kept_claim, is_not_done, is_below, is_own, backed_last}
use Rattle.job_table.proofs.table.Table.ask.Goals as goal

not_true : IsTrue false → ⊥
not_true e = cc

pub returns-in-Pending : goal.returns-in-Pending
returns-in-Pending g c =
    let kept = c.self.invariant.0 in
    rw (← c.self.view_is) (
      (sym kept.failed_is ∙ c.if-self.false, is_not_done _ _ _ _ _ kept c.args.key.now c.in-Pending.ensures.0),
      is_below _ _ _ _ _ kept c.args.w c.args.key.now (c.if-is_below.ensures.0 refl),
      (λ unknown. c.in-Pending.ensures.1 (kept.status c.args.key.now ∙ unknown)),
      refl,
    )

pub returns-in-Pending-2 : goal.returns-in-Pending-2
returns-in-Pending-2 g c =
    let kept = c.self.invariant.0 in
    rw (← c.self.view_is) (
      (sym kept.failed_is ∙ c.if-self.false, is_not_done _ _ _ _ _ kept c.args.key.now c.in-Pending-2.ensures.0),
      is_own _ _ _ _ _ kept c.args.w c.args.key.now (λ all. let e = c.if-is_below.ensures.1 all in absurd (not_true e)),
      refl,
    )

pub returns-then-not-is_below : goal.returns-then-not-is_below
returns-then-not-is_below g c =
    let kept = c.self.invariant.0 in
    rw (← c.self.view_is) (
      (sym kept.failed_is ∙ c.if-self.false, is_not_done _ _ _ _ _ kept c.args.key.now c.in-Unknown.ensures.0),
      is_own _ _ _ _ _ kept c.args.w c.args.key.now (λ all. let e = c.if-not-is_below.ensures.1 all in absurd (not_true e)),
      refl,
    )

pub returns-in_default : goal.returns-in_default
returns-in_default g c =
    let may = may_claim _ _ _ _ _ c.self.invariant.0 c.args.w c.args.key.now c.if-self.false c.in-Unknown.ensures.0 c.in-Unknown.ensures.1 (c.if-not-is_below.ensures.0 refl) in
    rw (← c.self.view_is) (may.0, (λ _. may), rw c.in_default.ensures.history.0 refl)

pub invariant_of-self-2 : goal.invariant_of-self-2
invariant_of-self-2 g c =
    let i = c.self.inside in
    let kept = c.self.invariant.0 in
    let nd = c.in-Unknown.ensures.0 in
    let u = c.in-Unknown.ensures.1 in
    rw c.in-Ok-claim.ensures.events (
      kept_claim _ _ _ _ _ kept _ c.args.w c.args.key.now c.if-self.false nd u (c.if-not-is_below.ensures.0 refl) c.in-Ok-claim.ensures.apart c.in-Ok-claim.ensures.claimed,
      backed_last (g.R.Runner.queries.mean i.terms.profile) (g.R.Runner.queries.reads i.terms.profile) (map event_of i.history.items) (Claim c.args.w c.args.key.now) c.self.invariant.1 tt,
      (λ _. c.in-Ok-claim.ensures.room),
      c.self.invariant.3,
    )

pub returns : goal.returns
returns g c =
    let may = may_claim _ _ _ _ _ c.self.invariant.0 c.args.w c.args.key.now c.if-self.false c.in-Unknown.ensures.0 c.in-Unknown.ensures.1 (c.if-not-is_below.ensures.0 refl) in
    rw (← c.self.view_is) (may, rw c.in-Ok-claim.ensures.events refl)
