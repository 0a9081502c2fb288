use Rattle.std.proofs.Common.{rules, ◌≡◌, ℕ, ◌<◌, length, get_or, Bool, subst, ap, ◌∙◌, arith, Option, Some}
use Rattle.std.specs.Prelude.{Result, Ok, Err}
use Rattle.std.specs.Arc.{arc_value}
use Rattle.std.specs.declared.alloc.Global.{Global}
use Rattle.std.specs.declared.sync.Arc.{Arc}
use Rattle.item_ids.specs.Inputs.{rank}
use Rattle.result_bytes.specs.declared.value.Value.{Value}
use Rattle.sessions.specs.Sessions.{key_at, session_in}
use Rattle.recorder.specs.Runs.{OutcomeValue}
use Rattle.job_table.specs.declared.fault.Asked.{Asked}
use Rattle.job_table.specs.declared.fault.TableFault.{TableFault}
use Rattle.mark_green.specs.declared.asking.RunStop.{RunStop}
use Rattle.mark_green.specs.declared.steps.Tried.{Tried}
use Rattle.mark_green.specs.declared.fault.Fault.{Fault}
use Rattle.mark_green.specs.Moves.{HaltsAtRead}
use Rattle.mark_green.proofs.Held.{held_more}
use Rattle.mark_green.proofs.Told.{told_on, told_more, same_on}
use Rattle.graph_rules.specs.Steps.{Claimed, Running, AllUnchanged, AreHeld}
use Rattle.job_table.specs.Tables.{state_of}
use Rattle.job_table.specs.Calls.{walk_in}
use Rattle.mark_green.specs.Leaves.{KnowsChange, HasStatus}
use Rattle.mark_green.specs.Ensures.{WorkGives}
use Rattle.mark_green.proofs.Turning.{Works, Fetches, Turns, Ends, Begins, Starts, fetch_ok, fetch_lost, fetch_up, turn_stopped, turn_more, turn_up, holds_more, ends_ok, ends_up, run_ended, run_up, start_run, start_refused}
use Rattle.mark_green.proofs.Working.{Ensured, Edges, OverEdges, Asks, edge_ok, edge_up, far_more, far_changed, far_up, over_marked_at, over_run_at, over_up_at, over_once, over_once_up, over_later, over_runs, Tries, work_over_past, ensured_work, ensured_done, ensured_stopped, ensured_busy, ensured_refused}
use Rattle.mark_green.proofs.worker.Worker.+ensure.Goals as goal

pub ensure-returns-in-Ok-Yours-clause-gives : goal.ensure-returns-in-Ok-Yours-clause-gives
ensure-returns-in-Ok-Yours-clause-gives g t c =
    let w = c.args.self.now.id in
    let a = subst (λ (r : Result Asked TableFault). Asks w c.args.key.now r (g.S.Store.table c.args.self.now.store.now) (g.S.Store.table c.ask.new.self)) (c.in-Ok-Yours.is ∙ ap Ok c.in-Ok-Yours.field-0-is) c.ask.ensures.gives in
    ensured_work w c.args.key.now _ _ _ c.work.result a c.work.ensures.gives

pub ensure-returns-in-Ok-Busy-clause-gives : goal.ensure-returns-in-Ok-Busy-clause-gives
ensure-returns-in-Ok-Busy-clause-gives g t c =
    let w = c.args.self.now.id in
    let a = subst (λ (r : Result Asked TableFault). Asks w c.args.key.now r (g.S.Store.table c.args.self.now.store.now) (g.S.Store.table c.ask.new.self)) (c.in-Ok-Busy.is ∙ ap Ok c.in-Ok-Busy.field-0-is) c.ask.ensures.gives in
    ensured_busy w c.args.key.now _ _ a

pub ensure-returns-in-Ok-Done-clause-gives : goal.ensure-returns-in-Ok-Done-clause-gives
ensure-returns-in-Ok-Done-clause-gives g t c =
    let w = c.args.self.now.id in
    let a = subst (λ (r : Result Asked TableFault). Asks w c.args.key.now r (g.S.Store.table c.args.self.now.store.now) (g.S.Store.table c.ask.new.self)) (c.in-Ok-Done.is ∙ ap Ok c.in-Ok-Done.field-0-is) c.ask.ensures.gives in
    ensured_done w c.args.key.now _ _ c.in-Ok-Done.sealed a

pub ensure-returns-in-Ok-Stopped-clause-gives : goal.ensure-returns-in-Ok-Stopped-clause-gives
ensure-returns-in-Ok-Stopped-clause-gives g t c =
    let w = c.args.self.now.id in
    let a = subst (λ (r : Result Asked TableFault). Asks w c.args.key.now r (g.S.Store.table c.args.self.now.store.now) (g.S.Store.table c.ask.new.self)) (c.in-Ok-Stopped.is ∙ ap Ok c.in-Ok-Stopped.field-0-is) c.ask.ensures.gives in
    ensured_stopped w c.args.key.now _ _ a

pub ensure-returns-in-Err-clause-gives : goal.ensure-returns-in-Err-clause-gives
ensure-returns-in-Err-clause-gives g t c =
    let w = c.args.self.now.id in
    let a = subst (λ (r : Result Asked TableFault). Asks w c.args.key.now r (g.S.Store.table c.args.self.now.store.now) (g.S.Store.table c.ask.new.self)) (c.in-Err.is) c.ask.ensures.gives in
    ensured_refused w c.args.key.now _ _ _ c.in-Err.fault c.give_up.result c.give_up.ensures.fault a c.give_up.ensures.stops

pub work-returns-in-Ok-clause-gives : goal.work-returns-in-Ok-clause-gives
work-returns-in-Ok-clause-gives g t c =
    let w = c.args.self.now.id in
    work_over_past w c.args.key.now c.work_over.result (session_in c.in-Ok.past) (g.S.Store.table c.args.self.now.store.now) (g.S.Store.table c.work_over.new.self.store.now) c.in-Ok.ensures c.work_over.ensures.gives

pub fetch-returns-in-Ok-add-clause-gives : goal.fetch-returns-in-Ok-add-clause-gives
fetch-returns-in-Ok-add-clause-gives g t c =
    let w = c.args.self.now.id in
    let h = subst (λ (r : Result (Arc Value Global) Fault). Works w c.args.lacked r (g.S.Store.table c.args.self.now.store.now) (g.S.Store.table c.work.new.self.store.now)) c.in-Ok.is c.work.ensures.gives in
    fetch_ok w c.args.lacked c.args.held.now c.add.new.self c.in-Ok.sealed c.in-Ok-add.ensures.ok tt _ _ h

pub fetch-returns-in-Err-add-clause-gives : goal.fetch-returns-in-Err-add-clause-gives
fetch-returns-in-Err-add-clause-gives g t c =
    let w = c.args.self.now.id in
    let h = subst (λ (r : Result (Arc Value Global) Fault). Works w c.args.lacked r (g.S.Store.table c.args.self.now.store.now) (g.S.Store.table c.work.new.self.store.now)) c.in-Ok.is c.work.ensures.gives in
    fetch_lost w c.args.lacked c.args.held.now c.add.new.self c.in-Ok.sealed c.give_up.result c.give_up.ensures.fault _ _ _ h c.give_up.ensures.stops

pub fetch-returns-in-Err-clause-gives : goal.fetch-returns-in-Err-clause-gives
fetch-returns-in-Err-clause-gives g t c =
    let w = c.args.self.now.id in
    let h = subst (λ (r : Result (Arc Value Global) Fault). Works w c.args.lacked r (g.S.Store.table c.args.self.now.store.now) (g.S.Store.table c.work.new.self.store.now)) c.in-Err.is c.work.ensures.gives in
    fetch_up w c.args.lacked c.args.held.now c.args.held.now c.in-Err.fault _ _ h

pub is_unchanged-returns-in-Ok-clause-gives : goal.is_unchanged-returns-in-Ok-clause-gives
is_unchanged-returns-in-Ok-clause-gives g t c =
    let r = c.index-records-at.result in
    let is = rw c.records.ensures.value at c.index-records-at.is in
    let w = c.args.self.now.id in
    let m = rw c.key.ensures at c.ensure.ensures.gives in
    let e = subst (λ (x : Result (Arc Value Global) Fault). Ensured w r.key x (g.S.Store.table c.args.self.now.store.now) (g.S.Store.table c.ensure.new.self.store.now)) c.in-Ok.is m in
    edge_ok c.args.past.now c.records.ensures.session c.args.at r c.requires.within is w _ _ c.in-Ok.sealed c.is_same.result c.is_same.ensures.0 c.is_same.ensures.1 e

pub is_unchanged-returns-in-Err-clause-gives : goal.is_unchanged-returns-in-Err-clause-gives
is_unchanged-returns-in-Err-clause-gives g t c =
    let w = c.args.self.now.id in
    let r = c.index-records-at.result in
    let is = rw c.records.ensures.value at c.index-records-at.is in
    let m = rw c.key.ensures at c.ensure.ensures.gives in
    let e = subst (λ (x : Result (Arc Value Global) Fault). Ensured w r.key x (g.S.Store.table c.args.self.now.store.now) (g.S.Store.table c.ensure.new.self.store.now)) c.in-Err.is m in
    edge_up c.args.past.now c.records.ensures.session c.args.at r c.requires.within is w _ _ c.in-Err.fault e

pub run-returns-in-Ok-clause-gives : goal.run-returns-in-Ok-clause-gives
run-returns-in-Ok-clause-gives g t c =
    let w = c.args.self.now.id in
    let so = subst (λ (r : Result OutcomeValue Fault). Ends w c.args.key.now r (g.S.Store.table c.args.self.now.store.now) (g.S.Store.table c.turns.new.self.store.now)) c.in-Ok.is c.turns.ensures.gives in
    run_ended w c.args.key.now c.end_run.result c.in-Ok.outcome _ _ _ so
    (subst (λ (n : ℕ). KnowsChange (λ t u. HasStatus (Running n) n c.args.key.now t → AreHeld (state_of t) c.in-Ok.outcome.told → WorkGives t n c.args.key.now c.end_run.result u) (g.S.Store.table c.turns.new.self.store.now) (g.S.Store.table c.end_run.new.self.store.now)) c.turns.ensures.same.id c.end_run.ensures.gives)

pub run-returns-clause-gives : goal.run-returns-clause-gives
run-returns-clause-gives g t c =
    let w = c.args.self.now.id in
    let so = subst (λ (r : Result OutcomeValue Fault). Ends w c.args.key.now r (g.S.Store.table c.args.self.now.store.now) (g.S.Store.table c.turns.new.self.store.now)) c.in-Err.is c.turns.ensures.gives in
    run_up w c.args.key.now c.in-Err.fault _ _ so

pub start-returns-in-Ok-clause-gives : goal.start-returns-in-Ok-clause-gives
start-returns-in-Ok-clause-gives g t c =
    let w = c.args.self.now.id in
    let b = subst (λ (r : Result (Unit {0}) TableFault). Begins w c.args.key.now r (g.S.Store.table c.args.self.now.store.now) (g.S.Store.table c.begin_run.new.self)) c.in-Ok.is c.begin_run.ensures.gives in
    start_run w c.args.key.now c.run.result tt _ _ _ b c.run.ensures.gives

pub start-returns-in-Err-clause-gives : goal.start-returns-in-Err-clause-gives
start-returns-in-Err-clause-gives g t c =
    let w = c.args.self.now.id in
    let b = subst (λ (r : Result (Unit {0}) TableFault). Begins w c.args.key.now r (g.S.Store.table c.args.self.now.store.now) (g.S.Store.table c.begin_run.new.self)) c.in-Err.is c.begin_run.ensures.gives in
    start_refused w c.args.key.now c.in-Err.fault c.give_up.result c.give_up.ensures.fault _ _ _ b c.give_up.ensures.stops

pub turn-returns-in-Ok-fetch-clause-gives : goal.turn-returns-in-Ok-fetch-clause-gives
turn-returns-in-Ok-fetch-clause-gives g t c =
    let w = c.args.self.now.id in
    let h = subst (λ (x : RunStop). HaltsAtRead w (rank c.args.key.now) x (g.S.Store.table c.args.self.now.store.now) (g.S.Store.table c.run_once.new.store)) c.in-Err-Lacks.field-0-is c.in-Err-Lacks.ensures.halts in
    let f = subst (λ (r : Result (Unit {0}) Fault). Fetches w c.in-Err-Lacks.lacked r c.args.held.now c.fetch.new.held (g.S.Store.table c.run_once.new.store) (g.S.Store.table c.fetch.new.self.store.now)) c.in-Ok-fetch.is c.fetch.ensures.gives in
    turn_more w c.args.key.now c.args.held.now c.fetch.new.held c.in-Err-Lacks.lacked tt _ _ _ h f

pub turn-returns-in-Ok-fetch-clause-held : goal.turn-returns-in-Ok-fetch-clause-held
turn-returns-in-Ok-fetch-clause-held g t c =
    let w = c.args.self.now.id in
    let h = subst (λ (x : RunStop). HaltsAtRead w (rank c.args.key.now) x (g.S.Store.table c.args.self.now.store.now) (g.S.Store.table c.run_once.new.store)) c.in-Err-Lacks.field-0-is c.in-Err-Lacks.ensures.halts in
    let f = subst (λ (r : Result (Unit {0}) Fault). Fetches w c.in-Err-Lacks.lacked r c.args.held.now c.fetch.new.held (g.S.Store.table c.run_once.new.store) (g.S.Store.table c.fetch.new.self.store.now)) c.in-Ok-fetch.is c.fetch.ensures.gives in
    held_more w c.args.key.now c.in-Err-Lacks.lacked c.args.held.now c.fetch.new.held tt _ _ _ h f

pub turn-returns-in-Ok-fetch-clause-told : goal.turn-returns-in-Ok-fetch-clause-told
turn-returns-in-Ok-fetch-clause-told g t c =
    let told = rw c.in-Ok-fetch.is at c.fetch.ensures.told in
    λ all. told (told_on (g.S.Store.told c.args.self.now.store.now) (g.S.Store.told c.run_once.new.store) c.run_once.ensures.stays c.args.held.now all)

pub fetch-returns-in-Ok-add-clause-told : goal.fetch-returns-in-Ok-add-clause-told
fetch-returns-in-Ok-add-clause-told g t c =
    let told = rw c.in-Ok.is at c.work.ensures.told in
    λ all. told_more (g.S.Store.told c.work.new.self.store.now) c.args.held.now c.add.new.self c.args.lacked (arc_value c.in-Ok.sealed) c.in-Ok-add.ensures.ok
    (told_on (g.S.Store.told c.args.self.now.store.now) (g.S.Store.told c.work.new.self.store.now) c.work.ensures.same.stays c.args.held.now all) told

pub turn-returns-in-Err-fetch-clause-gives : goal.turn-returns-in-Err-fetch-clause-gives
turn-returns-in-Err-fetch-clause-gives g t c =
    let w = c.args.self.now.id in
    let h = subst (λ (x : RunStop). HaltsAtRead w (rank c.args.key.now) x (g.S.Store.table c.args.self.now.store.now) (g.S.Store.table c.run_once.new.store)) c.in-Err-Lacks.field-0-is c.in-Err-Lacks.ensures.halts in
    let f = subst (λ (r : Result (Unit {0}) Fault). Fetches w c.in-Err-Lacks.lacked r c.args.held.now c.fetch.new.held (g.S.Store.table c.run_once.new.store) (g.S.Store.table c.fetch.new.self.store.now)) c.in-Err-fetch.is c.fetch.ensures.gives in
    turn_up w c.args.key.now c.args.held.now c.fetch.new.held c.in-Err-Lacks.lacked c.in-Err-fetch.fault _ _ _ h f

pub turn-returns-in-Err-clause-gives : goal.turn-returns-in-Err-clause-gives
turn-returns-in-Err-clause-gives g t c =
    let w = c.args.self.now.id in
    turn_stopped w c.args.key.now c.args.held.now c.args.held.now c.in-Err.stop c.give_up_run-fault.result c.give_up_run-fault.ensures.fault _ _ _ c.in-Err.ensures.halts c.give_up_run-fault.ensures.stops

pub turns-returns-in-Some-clause-gives : goal.turns-returns-in-Some-clause-gives
turns-returns-in-Some-clause-gives g t c =
    let w = c.args.self.now.id in
    let h = subst (λ (r : Result (Option OutcomeValue) Fault). Turns w c.args.key.now r c.again.held c.turn.new.held (g.S.Store.table c.again.self.store.now) (g.S.Store.table c.turn.new.self.store.now)) (c.in_ok-outcome.was ∙ ap Ok c.in-Some.is) (subst (λ (n : ℕ). Turns n c.args.key.now c.turn.result c.again.held c.turn.new.held (g.S.Store.table c.again.self.store.now) (g.S.Store.table c.turn.new.self.store.now)) c.again.invariant.0.id c.turn.ensures.gives) in
    ends_ok w c.args.key.now c.again.held c.turn.new.held _ _ _ c.again.invariant.1 c.in-Some.outcome h

pub turns-returns-in-Some-clause-held : goal.turns-returns-in-Some-clause-held
turns-returns-in-Some-clause-held g t c =
    let held = rw (c.in_ok-outcome.was, c.in-Some.is) at c.turn.ensures.held in
    held c.again.invariant.2

pub turns-returns-in-Some-clause-told : goal.turns-returns-in-Some-clause-told
turns-returns-in-Some-clause-told g t c =
    let told = rw (c.in_ok-outcome.was, c.in-Some.is) at c.turn.ensures.told in
    told c.again.invariant.3

pub turns-returns-in_err-outcome-clause-gives : goal.turns-returns-in_err-outcome-clause-gives
turns-returns-in_err-outcome-clause-gives g t c =
    let w = c.args.self.now.id in
    let h = subst (λ (r : Result (Option OutcomeValue) Fault). Turns w c.args.key.now r c.again.held c.turn.new.held (g.S.Store.table c.again.self.store.now) (g.S.Store.table c.turn.new.self.store.now)) c.in_err-outcome.was (subst (λ (n : ℕ). Turns n c.args.key.now c.turn.result c.again.held c.turn.new.held (g.S.Store.table c.again.self.store.now) (g.S.Store.table c.turn.new.self.store.now)) c.again.invariant.0.id c.turn.ensures.gives) in
    let h : Ends w c.args.key.now (Err c.in_err-outcome.field-0.0) (g.S.Store.table c.args.self.now.store.now) (g.S.Store.table c.turn.new.self.store.now) =
    ends_up w c.args.key.now c.again.held c.turn.new.held _ _ _ c.again.invariant.1 c.in_err-outcome.field-0.0 h in
    search rules

pub turns-again-preserved : goal.turns-again-preserved
turns-again-preserved g t c =
    let w = c.args.self.now.id in
    let h = subst (λ (r : Result (Option OutcomeValue) Fault). Turns w c.args.key.now r c.again.held c.turn.new.held (g.S.Store.table c.again.self.store.now) (g.S.Store.table c.turn.new.self.store.now)) (c.in_ok-outcome.was ∙ ap Ok c.in_default.is) (subst (λ (n : ℕ). Turns n c.args.key.now c.turn.result c.again.held c.turn.new.held (g.S.Store.table c.again.self.store.now) (g.S.Store.table c.turn.new.self.store.now)) c.again.invariant.0.id c.turn.ensures.gives) in
    let held = rw (c.in_ok-outcome.was, c.in_default.is) at c.turn.ensures.held in
    let told = rw (c.in_ok-outcome.was, c.in_default.is) at c.turn.ensures.told in
    (same_on g.S.Store.told c.args.self.now c.again.self c.turn.new.self c.again.invariant.0 c.turn.ensures.same, holds_more w c.args.key.now c.again.held c.turn.new.held _ _ _ c.again.invariant.1 h, held c.again.invariant.2, told c.again.invariant.3)

pub walk_edges-returns-in-Ok-false-clause-gives : goal.walk_edges-returns-in-Ok-false-clause-gives
walk_edges-returns-in-Ok-false-clause-gives g t c =
    let w = c.args.self.now.id in
    let lt : c.edges.at-index < length c.args.edges.now = omega arith in
    let e = subst (λ (r : Result Bool Fault). Edges c.args.past.now w (key_at c.args.past.now.records (get_or c.args.edges.now c.edges.at-index 0)) r (g.S.Store.table c.edges.self.store.now) (g.S.Store.table c.is_unchanged.new.self.store.now)) (c.in-Ok-false.is ∙ ap Ok c.in-Ok-false.field-0-test) (subst (λ (n : ℕ). Edges c.args.past.now n (key_at c.args.past.now.records (get_or c.args.edges.now c.edges.at-index 0)) c.is_unchanged.result (g.S.Store.table c.edges.self.store.now) (g.S.Store.table c.is_unchanged.new.self.store.now)) c.edges.invariant.0.id c.is_unchanged.ensures.gives) in
    far_changed c.args.past.now w c.args.key.now c.args.edges.now c.edges.at-index _ _ c.edges.invariant.1 lt _ e

pub walk_edges-returns-in-Err-clause-gives : goal.walk_edges-returns-in-Err-clause-gives
walk_edges-returns-in-Err-clause-gives g t c =
    let w = c.args.self.now.id in
    let lt : c.edges.at-index < length c.args.edges.now = omega arith in
    let e = subst (λ (r : Result Bool Fault). Edges c.args.past.now w (key_at c.args.past.now.records (get_or c.args.edges.now c.edges.at-index 0)) r (g.S.Store.table c.edges.self.store.now) (g.S.Store.table c.is_unchanged.new.self.store.now)) c.in-Err.is (subst (λ (n : ℕ). Edges c.args.past.now n (key_at c.args.past.now.records (get_or c.args.edges.now c.edges.at-index 0)) c.is_unchanged.result (g.S.Store.table c.edges.self.store.now) (g.S.Store.table c.is_unchanged.new.self.store.now)) c.edges.invariant.0.id c.is_unchanged.ensures.gives) in
    far_up c.args.past.now w c.args.key.now c.args.edges.now c.edges.at-index _ _ c.edges.invariant.1 lt _ c.in-Err.fault c.requires.edges e

pub walk_edges-edges-preserved : goal.walk_edges-edges-preserved
walk_edges-edges-preserved g t c =
    let w = c.args.self.now.id in
    let lt : c.edges.at-index < length c.args.edges.now = omega arith in
    let e = subst (λ (r : Result Bool Fault). Edges c.args.past.now w (key_at c.args.past.now.records (get_or c.args.edges.now c.edges.at-index 0)) r (g.S.Store.table c.edges.self.store.now) (g.S.Store.table c.is_unchanged.new.self.store.now)) (c.in-Ok-true.is ∙ ap Ok c.in-Ok-true.field-0-test) (subst (λ (n : ℕ). Edges c.args.past.now n (key_at c.args.past.now.records (get_or c.args.edges.now c.edges.at-index 0)) c.is_unchanged.result (g.S.Store.table c.edges.self.store.now) (g.S.Store.table c.is_unchanged.new.self.store.now)) c.edges.invariant.0.id c.is_unchanged.ensures.gives) in
    (same_on g.S.Store.told c.args.self.now c.edges.self c.is_unchanged.new.self c.edges.invariant.0 c.is_unchanged.ensures.same, far_more c.args.past.now w c.args.key.now c.args.edges.now c.edges.at-index _ _ c.edges.invariant.1 lt _ e)

pub work_by_edges-returns-in-Ok-true-clause-gives : goal.work_by_edges-returns-in-Ok-true-clause-gives
work_by_edges-returns-in-Ok-true-clause-gives g t c =
    over_marked_at c.args.self.now.id c.args.key.now c.mark.result c.args.past.now c.in-Some.past c.in-Some.is c.deref.result.now c.deref-2.result.now c.deref.ensures c.deref-2.ensures
    c.in-Some-past_edges.edges.now c.in-Some-past_edges.ensures.found c.walk_edges.result _ _ _ c.walk_edges.ensures.gives (c.in-Ok-true.is ∙ ap Ok c.in-Ok-true.field-0-test)
    (subst (λ (n : ℕ). KnowsChange (λ t u. HasStatus (Claimed n) n c.args.key.now t → walk_in t c.args.key.now ≡ Some AllUnchanged → WorkGives t n c.args.key.now c.mark.result u) (g.S.Store.table c.walk_edges.new.self.store.now) (g.S.Store.table c.mark.new.self.store.now)) c.walk_edges.ensures.same.id c.mark.ensures.gives)

pub work_by_edges-returns-in-Ok-false-clause-gives : goal.work_by_edges-returns-in-Ok-false-clause-gives
work_by_edges-returns-in-Ok-false-clause-gives g t c =
    over_run_at c.args.self.now.id c.args.key.now c.start-in-Ok-false.result c.args.past.now c.in-Some.past c.in-Some.is c.deref.result.now c.deref-2.result.now c.deref.ensures c.deref-2.ensures
    c.in-Some-past_edges.edges.now c.in-Some-past_edges.ensures.found c.walk_edges.result _ _ _ c.walk_edges.ensures.gives (c.in-Ok-false.is ∙ ap Ok c.in-Ok-false.field-0-test)
    (subst (λ (n : ℕ). Starts n c.args.key.now c.start-in-Ok-false.result (g.S.Store.table c.walk_edges.new.self.store.now) (g.S.Store.table c.start-in-Ok-false.new.self.store.now)) c.walk_edges.ensures.same.id c.start-in-Ok-false.ensures.gives)

pub work_by_edges-returns-in-Err-clause-gives : goal.work_by_edges-returns-in-Err-clause-gives
work_by_edges-returns-in-Err-clause-gives g t c =
    over_up_at c.args.self.now.id c.args.key.now c.args.past.now c.in-Some.past c.in-Some.is c.deref-2.result.now c.deref-2.ensures c.in-Some-past_edges.edges.now c.walk_edges.result c.in-Err.fault c.in-Err.is _ _ c.walk_edges.ensures.gives

pub work_over-returns-in-Ok-Marked-clause-gives : goal.work_over-returns-in-Ok-Marked-clause-gives
work_over-returns-in-Ok-Marked-clause-gives g t c =
    let w = c.args.self.now.id in
    let h = subst (λ (r : Result Tried Fault). Tries w c.args.key.now (session_in c.args.past.now) r (g.S.Store.table c.args.self.now.store.now) (g.S.Store.table c.mark_at_once.new.self.store.now)) (c.in-Ok-Marked.is ∙ ap Ok c.in-Ok-Marked.field-0-is) c.mark_at_once.ensures.gives in
    over_once w c.args.key.now (session_in c.args.past.now) c.in-Ok-Marked.sealed _ _ h

pub work_over-returns-in-Ok-ByEdges-clause-gives : goal.work_over-returns-in-Ok-ByEdges-clause-gives
work_over-returns-in-Ok-ByEdges-clause-gives g t c =
    let w = c.args.self.now.id in
    let h = subst (λ (r : Result Tried Fault). Tries w c.args.key.now (session_in c.args.past.now) r (g.S.Store.table c.args.self.now.store.now) (g.S.Store.table c.mark_at_once.new.self.store.now)) (c.in-Ok-ByEdges.is ∙ ap Ok c.in-Ok-ByEdges.field-0-is) c.mark_at_once.ensures.gives in
    let o = subst (λ (n : ℕ). OverEdges (session_in c.args.past.now) n c.args.key.now c.work_by_edges.result (g.S.Store.table c.mark_at_once.new.self.store.now) (g.S.Store.table c.work_by_edges.new.self.store.now)) c.mark_at_once.ensures.same.id c.work_by_edges.ensures.gives in
    over_later w c.args.key.now (session_in c.args.past.now) c.work_by_edges.result _ _ _ h o

pub work_over-returns-in-Ok-Runs-clause-gives : goal.work_over-returns-in-Ok-Runs-clause-gives
work_over-returns-in-Ok-Runs-clause-gives g t c =
    let w = c.args.self.now.id in
    let h = subst (λ (r : Result Tried Fault). Tries w c.args.key.now (session_in c.args.past.now) r (g.S.Store.table c.args.self.now.store.now) (g.S.Store.table c.mark_at_once.new.self.store.now)) (c.in-Ok-Runs.is ∙ ap Ok c.in-Ok-Runs.field-0-is) c.mark_at_once.ensures.gives in
    let o = subst (λ (n : ℕ). Starts n c.args.key.now c.start.result (g.S.Store.table c.mark_at_once.new.self.store.now) (g.S.Store.table c.start.new.self.store.now)) c.mark_at_once.ensures.same.id c.start.ensures.gives in
    over_runs w c.args.key.now (session_in c.args.past.now) c.start.result _ _ _ h o

pub work_over-returns-in-Err-clause-gives : goal.work_over-returns-in-Err-clause-gives
work_over-returns-in-Err-clause-gives g t c =
    let w = c.args.self.now.id in
    let h = subst (λ (r : Result Tried Fault). Tries w c.args.key.now (session_in c.args.past.now) r (g.S.Store.table c.args.self.now.store.now) (g.S.Store.table c.mark_at_once.new.self.store.now)) (c.in-Err.is) c.mark_at_once.ensures.gives in
    over_once_up w c.args.key.now (session_in c.args.past.now) c.in-Err.fault _ _ h
