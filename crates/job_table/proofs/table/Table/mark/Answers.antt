use Rattle.std.proofs.Common.{◌≡◌, [], ◌∷◌, ◌++◌, map, false, ap, sym, ◌∙◌, refl, Some}
use Rattle.std.specs.Arc.{arc_value}
use Rattle.sessions.specs.Sessions.{Entry, entry_of, entry_at}
use Rattle.graph_rules.specs.Settings.{Setting, kept, setting_of}
use Rattle.graph_rules.specs.Steps.{Claimed, MarkGreen, AllUnchanged, walk}
use Rattle.key_states.specs.Nodes.{state_of_nodes}
use Rattle.job_table.specs.Kept.{event_of}
use Rattle.job_table.proofs.StepRules.{backed_last}
use Rattle.graph_rules.proofs.SettingRules.{kept_some}
use Rattle.job_table.proofs.CallRules.{not_standing, mark_at, mark_lacks, mark_across, mark_refused, walk_some, mark_gives, mark_kept}
use Rattle.job_table.proofs.table.Table.mark.Given.{Over}
use Rattle.job_table.proofs.table.Table.mark.Goals as goal
use Rattle.job_table.proofs.table.Table.mark.Goals.{After-put_mark}

pub returns-in_default : goal.returns-in_default
returns-in_default g c =
    let kept = c.self.invariant.0 in
    rw (← c.self.view_is) (
      sym kept.failed_is ∙ c.if-self.false,
      not_standing _ _ _ _ _ kept c.args.key.now (Claimed c.args.w) tt c.in_default.ensures.none,
      refl,
    )

pub returns-in_default-past : goal.returns-in_default-past
returns-in_default-past g c =
    let kept = rw c.in_default-past.is at c.self.invariant.0 in
    let te = rw c.in_default-past.is at c.self.view_is in
    mark_lacks _ _ te _ _ kept c.args.key.now c.args.w c.if-self.false c.in-Some.ensures.claimed refl

pub returns-in_default-find : goal.returns-in_default-find
returns-in_default-find g c =
    let kept = rw c.in-Some-past.is at c.self.invariant.0 in
    let te = rw c.in-Some-past.is at c.self.view_is in
    let none = rw c.deref.ensures at c.in_default-find.ensures.found in
    let lacks = mark_lacks _ _ te _ _ kept c.args.key.now c.args.w c.if-self.false c.in-Some.ensures.claimed none in
    (lacks.0, lacks.1, c.self.view_is)

pub returns-then-crosses : goal.returns-then-crosses
returns-then-crosses g c =
    let kept = rw c.in-Some-past.is at c.self.invariant.0 in
    let te = rw c.in-Some-past.is at c.self.view_is in
    let has = rw c.deref.ensures at c.in-Some-find.ensures.found in
    let crossing = rw (c.deref-2.ensures, c.kind.ensures) at c.crosses.ensures in
    let across = mark_across _ _ te _ _ kept c.args.key.now c.args.w _ c.if-self.false c.in-Some.ensures.claimed has (sym crossing ∙ c.if-crosses.true) in
    (across.0, across.1, across.2, c.self.view_is)

pub returns-in-Open : goal.returns-in-Open
returns-in-Open g c =
    let kept = rw c.in-Some-past.is at c.self.invariant.0 in
    let te = rw c.in-Some-past.is at c.self.view_is in
    let over = setting_of g.R.Runner.queries.by_profile c.self.inside.terms.profile (Some (arc_value c.in-Some-past.past)) in
    let has = rw c.deref.ensures at c.in-Some-find.ensures.found in
    let crossing = rw (c.deref-2.ensures, c.kind.ensures) at c.crosses.ensures in
    let walked = rw (c.deref-3.ensures, c.edges.ensures) at c.in-Open.ensures in
    let found = kept_some over c.args.key.now _ (sym crossing ∙ c.if-crosses.false) has in
    let walk_is = walk_some over (state_of_nodes c.self.inside.inputs c.self.inside.nodes false) c.args.key.now _ _ found walked in
    let refused = mark_refused _ _ te _ _ kept c.args.key.now c.args.w _ c.if-self.false c.in-Some.ensures.claimed walk_is in
    (refused.0, refused.1, c.self.view_is)

pub returns-in-Changed : goal.returns-in-Changed
returns-in-Changed g c =
    let kept = rw c.in-Some-past.is at c.self.invariant.0 in
    let te = rw c.in-Some-past.is at c.self.view_is in
    let over = setting_of g.R.Runner.queries.by_profile c.self.inside.terms.profile (Some (arc_value c.in-Some-past.past)) in
    let has = rw c.deref.ensures at c.in-Some-find.ensures.found in
    let crossing = rw (c.deref-2.ensures, c.kind.ensures) at c.crosses.ensures in
    let walked = rw (c.deref-3.ensures, c.edges.ensures) at c.in-Changed.ensures in
    let found = kept_some over c.args.key.now _ (sym crossing ∙ c.if-crosses.false) has in
    let walk_is = walk_some over (state_of_nodes c.self.inside.inputs c.self.inside.nodes false) c.args.key.now _ _ found walked in
    let refused = mark_refused _ _ te _ _ kept c.args.key.now c.args.w _ c.if-self.false c.in-Some.ensures.claimed walk_is in
    (refused.0, refused.1, c.self.view_is)

pub returns-in_default-room_for_mark : goal.returns-in_default-room_for_mark
returns-in_default-room_for_mark g c =
    let kept = rw c.in-Some-past.is at c.self.invariant.0 in
    let te = rw c.in-Some-past.is at c.self.view_is in
    let over = setting_of g.R.Runner.queries.by_profile c.self.inside.terms.profile (Some (arc_value c.in-Some-past.past)) in
    let has = rw c.deref.ensures at c.in-Some-find.ensures.found in
    let crossing = rw (c.deref-2.ensures, c.kind.ensures) at c.crosses.ensures in
    let walked = rw (c.deref-3.ensures, c.edges.ensures) at c.in-AllUnchanged.ensures in
    let found = kept_some over c.args.key.now _ (sym crossing ∙ c.if-crosses.false) has in (
      mark_at _ _ te _ _ kept c.args.key.now c.args.w _ found c.if-self.false c.in-Some.ensures.claimed walked,
      rw (← c.self.view_is, c.room_for_mark.ensures.history.0) refl,
    )

pub returns-then-self : goal.returns-then-self
returns-then-self g c =
    let kept = c.self.invariant.0 in
    rw (← c.self.view_is) (sym kept.failed_is ∙ c.if-self.true, refl)

-- the history after the event
events_after : (g : Over) (c : After-put_mark g) → map event_of c.put_mark.new.history.items ≡ map event_of c.self.inside.history.items ++ MarkGreen c.args.w c.args.key.now ∷ []
events_after g c = rw (c.put_mark.ensures.events, c.room_for_mark.ensures.history.0, c.in-Some-room_for_mark.ensures.key) refl

-- what the previous session has of the key
abbrev entry_before : (g : Over) (c : After-put_mark g) → Entry
entry_before g c = entry_of (arc_value c.in-Some-past.past).records c.in-Some-find.record.now

-- what its session is worked over
abbrev over_before : (g : Over) (c : After-put_mark g) → Setting
over_before g c = setting_of g.R.Runner.queries.by_profile c.self.inside.terms.profile (Some (arc_value c.in-Some-past.past))

taken_before : (g : Over) (c : After-put_mark g) → kept (over_before g c) c.args.key.now ≡ Some (entry_before g c)
taken_before g c =
    let has = rw c.deref.ensures at c.in-Some-find.ensures.found in
    let crossing = rw (c.deref-2.ensures, c.kind.ensures) at c.crosses.ensures in
    kept_some (over_before g c) c.args.key.now (entry_before g c) (sym crossing ∙ c.if-crosses.false) has

walk_is_unchanged : (g : Over) (c : After-put_mark g) → AllUnchanged ≡ walk (entry_at (arc_value c.in-Some-past.past)) (state_of_nodes c.self.inside.inputs c.self.inside.nodes false) (entry_before g c).reads
walk_is_unchanged g c = let e = c.in-AllUnchanged.ensures in rw (c.deref-3.ensures, c.edges.ensures) at e

edges_same : (g : Over) (c : After-put_mark g) → c.in-Some-room_for_mark.parts.edges ≡ (entry_before g c).reads
edges_same g c = c.in-Some-room_for_mark.ensures.edges

pub invariant_of-self-2 : goal.invariant_of-self-2
invariant_of-self-2 g c =
    let i = c.self.inside in
    let kept = rw c.in-Some-past.is at c.self.invariant.0 in
    let r = c.in-Some-room_for_mark.ensures in
    rw (c.in-Some-past.is, events_after g c) (
      mark_kept (over_before g c) _ _ _ _ kept _ c.args.key.now c.args.w (entry_before g c) _ (taken_before g c) c.if-self.false c.in-Some.ensures.claimed (walk_is_unchanged g c) (rw (r.results.0, edges_same g c) refl) c.put_mark.ensures.apart
          (λ k. c.put_mark.ensures.done c.args.key.now k c.in-Some.ensures.some.0),
      backed_last (g.R.Runner.queries.mean i.terms.profile) (g.R.Runner.queries.reads i.terms.profile) (map event_of i.history.items) (MarkGreen c.args.w c.args.key.now) c.self.invariant.1 tt,
      (λ _. c.put_mark.ensures.room),
      (rw c.in-Some-past.is at c.self.invariant.3),
    )

pub returns : goal.returns
returns g c =
    let kept = rw c.in-Some-past.is at c.self.invariant.0 in
    let te = rw c.in-Some-past.is at c.self.view_is in
    mark_gives _ _ te _ _ kept c.args.key.now c.args.w (entry_before g c) (taken_before g c) c.if-self.false c.in-Some.ensures.claimed (walk_is_unchanged g c) _ _
    (rw (c.in-Some-past.is, events_after g c) refl) (sym (ap arc_value c.put_mark.ensures.answer ∙ c.in-Some-room_for_mark.ensures.results.1))

pub walk_edges-requires-clause-inputs : goal.walk_edges-requires-clause-inputs
walk_edges-requires-clause-inputs g c = c.self.invariant.0.inner
