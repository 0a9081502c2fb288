use Rattle.std.proofs.Common.{◌≡◌, ◌∙◌, subst}
use Rattle.std.specs.Prelude.{Result, Err, IfOk}
use Rattle.std.specs.Arc.{arc_value}
use Rattle.job_table.specs.Tables.{TableValue}
use Rattle.job_table.specs.Calls.{FinishGives}
use Rattle.job_table.specs.declared.fault.TableFault.{TableFault}
use Rattle.mark_green.specs.Leaves.{KnowsChange}
use Rattle.mark_green.proofs.GoingOn.{change_map, change_then, change_with}
use Rattle.mark_green.proofs.Calling.{finish_ok, finish_ended, stopped_early}
use Rattle.mark_green.proofs.Held.{held_shown}
use Rattle.mark_green.proofs.Told.{told_shown, told_result}
use Rattle.mark_green.proofs.worker.Worker.end_run.Goals as goal

pub returns-in-Ok-finish-clause-gives : goal.returns-in-Ok-finish-clause-gives
returns-in-Ok-finish-clause-gives g c =
    let shown = g.S.Store.outcome_in c.in-Ok.outcome in
    let m = subst (λ (r : Result (Unit {0}) TableFault). KnowsChange (λ (t u : TableValue). FinishGives t c.args.self.now.id shown r u) (g.S.Store.table c.args.self.now.store.now) (g.S.Store.table c.finish.new.self)) c.in-Ok-finish.is c.finish.ensures.gives in
    change_map _ _ (finish_ok c.args.self.now.id c.args.key.now c.in-Ok.sealed c.args.outcome shown _ (c.requires.shows c.in-Ok.outcome ∙ c.in-Ok.ensures.outcome) c.requires.key c.in-Ok.ensures.value) _ _ m

pub returns-in-Err-clause-gives : goal.returns-in-Err-clause-gives
returns-in-Err-clause-gives g c =
    let shown = g.S.Store.outcome_in c.in-Ok.outcome in
    let m = subst (λ (r : Result (Unit {0}) TableFault). KnowsChange (λ (t u : TableValue). FinishGives t c.args.self.now.id shown r u) (g.S.Store.table c.args.self.now.store.now) (g.S.Store.table c.finish.new.self)) c.in-Err.is c.finish.ensures.gives in
    let own = change_with (λ t. c.args.outcome.profile ≡ t.terms.profile) _ (λ t u. (c.args.outcome.profile ≡ t.terms.profile) × FinishGives t c.args.self.now.id shown (Err c.in-Err.fault) u) (λ t u k f. (k, f)) _ _ c.requires.profile m in
    change_then _ _ _ (λ t u v f. finish_ended c.args.self.now.id c.args.key.now c.args.outcome shown c.in-Err.fault c.give_up-in-Err.result (c.requires.shows c.in-Ok.outcome ∙ c.in-Ok.ensures.outcome) c.requires.key c.give_up-in-Err.ensures.fault t u v f.0 f.1) _ _ _ own c.give_up-in-Err.ensures.stops

pub returns-in_default-clause-gives : goal.returns-in_default-clause-gives
returns-in_default-clause-gives g c =
    change_map _ _ (stopped_early c.args.self.now.id c.args.key.now c.args.outcome.told c.give_up.result c.give_up.ensures.fault) _ _ c.give_up.ensures.stops

pub finish-requires : goal.finish-requires
finish-requires g c =
    let same : g.S.Store.outcome_in c.in-Ok.outcome ≡ c.args.outcome = c.requires.shows c.in-Ok.outcome ∙ c.in-Ok.ensures.outcome in
    record {
      held = held_shown g.S.Store.outcome_in c.args.outcome c.in-Ok.outcome (g.S.Store.table c.args.self.now.store.now) (c.requires.shows c.in-Ok.outcome) c.in-Ok.ensures.outcome c.requires.held;
      told = told_shown (g.S.Store.told c.args.self.now.store.now) (g.S.Store.outcome_in c.in-Ok.outcome) c.args.outcome same c.requires.told;
    }

pub returns-in-Ok-finish-clause-told : goal.returns-in-Ok-finish-clause-told
returns-in-Ok-finish-clause-told g c =
    let same : g.S.Store.outcome_in c.in-Ok.outcome ≡ c.args.outcome = c.requires.shows c.in-Ok.outcome ∙ c.in-Ok.ensures.outcome in
    let shown = g.S.Store.outcome_in c.in-Ok.outcome in
    let told = subst (λ (r : Result (Unit {0}) TableFault). IfOk r (λ _. g.S.Store.told c.finish.new.self shown.key shown.value)) c.in-Ok-finish.is c.finish.ensures.told in
    told_result (g.S.Store.told c.finish.new.self) (g.S.Store.outcome_in c.in-Ok.outcome) c.args.outcome c.args.key.now (arc_value c.in-Ok.sealed) same c.requires.key c.in-Ok.ensures.value told
