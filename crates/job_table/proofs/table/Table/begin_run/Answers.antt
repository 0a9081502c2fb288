use Rattle.std.proofs.Common.{◌≡◌, [], ◌∷◌, ◌++◌, map, sym, ◌∙◌, refl, subst}
use Rattle.std.specs.Prelude.{Err}
use Rattle.graph_rules.specs.Steps.{Claimed, Begin}
use Rattle.job_table.specs.Kept.{event_of}
use Rattle.job_table.specs.Tables.{TableValue}
use Rattle.job_table.specs.Calls.{BeginGives}
use Rattle.job_table.proofs.StepRules.{backed_last}
use Rattle.job_table.proofs.CallRules.{not_standing, begin_at, begin_kept, begin_refused}
use Rattle.key_states.proofs.PendingRules.{first_pending}
use Rattle.job_table.proofs.table.Table.begin_run.Given.{Over}
use Rattle.job_table.proofs.table.Table.begin_run.Goals as goal

pub returns-in_default : goal.returns-in_default
returns-in_default g c =
    let kept = c.self.invariant.0 in
    rw (← c.self.view_is) (
      sym kept.failed_is ∙ c.if-self.false,
      not_standing _ _ _ _ _ kept c.args.key.now (Claimed c.args.w) tt c.in_default.ensures.none,
      refl,
    )

pub returns-in-Some-why_not : goal.returns-in-Some-why_not
returns-in-Some-why_not g c =
    subst (λ (u : TableValue). BeginGives c.args.self.now c.args.w c.args.key.now (Err c.in-Some-why_not.fault) u) (sym c.self.view_is)
    (begin_refused _ _ c.self.view_is _ _ c.self.invariant.0 c.args.key.now c.args.w c.in-Some-why_not.fault c.if-self.false c.in-Some.ensures.claimed c.in-Some-why_not.ensures)

pub returns-in_default-note_begin : goal.returns-in_default-note_begin
returns-in_default-note_begin g c = (
  begin_at _ _ c.self.view_is _ _ c.self.invariant.0 c.args.key.now c.args.w c.if-self.false c.in-Some.ensures.claimed c.in_default-why_not.ensures,
  rw (← c.self.view_is, c.in_default-note_begin.ensures.history.0) refl,
)

pub put-requires-clause-pending : goal.put-requires-clause-pending
put-requires-clause-pending g c = λ _. first_pending c.self.inside.nodes c.args.key.now c.in-Some.at c.in-Some.ensures.some.0 (λ quiet. let no = rw c.in-Some.ensures.claimed at quiet in no)

-- the history after the event
events_after : (g : Over) (c : goal.After-put g) → map event_of c.note_begin.new.history.items ≡ map event_of c.self.inside.history.items ++ Begin c.args.w c.args.key.now ∷ []
events_after g c = c.in-Ok.ensures.events

pub invariant_of-self-2 : goal.invariant_of-self-2
invariant_of-self-2 g c =
    let i = c.self.inside in
    rw (events_after g c) (
      begin_kept _ _ _ _ _ c.self.invariant.0 _ c.args.key.now c.args.w c.if-self.false c.in-Some.ensures.claimed c.in_default-why_not.ensures c.put.ensures.apart
          (λ k. c.put.ensures.written c.args.key.now k c.in-Some.ensures.some.0),
      backed_last (g.R.Runner.queries.mean i.terms.profile) (g.R.Runner.queries.reads i.terms.profile) (map event_of i.history.items) (Begin c.args.w c.args.key.now) c.self.invariant.1 tt,
      (λ _. c.in-Ok.ensures.room),
      c.self.invariant.3,
    )

pub returns : goal.returns
returns g c = (
  begin_at _ _ c.self.view_is _ _ c.self.invariant.0 c.args.key.now c.args.w c.if-self.false c.in-Some.ensures.claimed c.in_default-why_not.ensures,
  rw (← c.self.view_is, events_after g c) refl,
)

pub why_not-requires : goal.why_not-requires
why_not-requires g c = c.self.invariant.0.inner
