use Rattle.std.proofs.Common.{◌≡◌, ap, ◌∙◌, sym, subst, None, rules}
use Rattle.item_ids.specs.Kinds.{rank_of}
use Rattle.item_ids.specs.Inputs.{rank}
use Rattle.mark_green.specs.Moves.{Moves}
use Rattle.std.specs.Prelude.{IfOk}
use Rattle.mark_green.specs.Leaves.{StaysTold, AreTold}
use Rattle.mark_green.proofs.Once.{told_of_run, profile_of_run, halts_of_run, wants_memory}
use Rattle.mark_green.proofs.Told.{told_by_run}
use Rattle.mark_green.proofs.runs.run_once.Goals as goal

pub returns-clause-profile : goal.returns-clause-profile
returns-clause-profile g c =
    profile_of_run c.record-outcome.result c.outcome_of.result c.terms-profile.result c.into_reader-back.result.stop (g.S.Store.table c.args.store.now) c.outcome_of.ensures.ok c.record-outcome.ensures.profile c.terms-profile.ensures

pub returns-clause-held : goal.returns-clause-held
returns-clause-held g c =
    let follows = rw c.new-recorder.ensures at c.record-outcome.ensures.follows in
    let answered = rw follows.1 at c.reads-reads.ensures.keeps.answers in
    let last = ap (λ r. r.stop) c.into_reader-back.ensures in
    let moves = rw (sym last) at follows.5 in
    told_of_run c.record-outcome.result c.outcome_of.result c.args.key.now c.args.w c.rank.result c.into_reader-back.result.stop (g.S.Store.table c.args.store.now) (g.S.Store.table c.record-outcome.new.recorder.inner.store.now) c.args.held.now c.record-outcome.new.recorder.told (g.S.Store.told c.record-outcome.new.recorder.inner.store.now)
    c.outcome_of.ensures.ok c.record-outcome.ensures.of_run moves answered

pub returns-clause-told : goal.returns-clause-told
returns-clause-told g c =
    let follows = rw c.new-recorder.ensures at c.record-outcome.ensures.follows in
    let answered = rw follows.1 at c.reads-reads.ensures.keeps.answers in
    let inner = c.record-outcome.new.recorder.inner.store.now in
    let told = told_by_run c.record-outcome.result c.outcome_of.result c.args.key.now c.into_reader-back.result.stop (g.S.Store.table inner) c.args.held.now c.record-outcome.new.recorder.told (g.S.Store.told inner)
    c.outcome_of.ensures.ok c.record-outcome.ensures.of_run answered in
    subst (λ s. IfOk c.outcome_of.result (λ o. AreTold (g.S.Store.told s) c.args.held.now → AreTold (g.S.Store.told s) o.told)) (search rules) told

pub returns-clause-stays : goal.returns-clause-stays
returns-clause-stays g c =
    let follows = rw c.new-recorder.ensures at c.record-outcome.ensures.follows in
    subst (λ s. StaysTold (g.S.Store.told c.args.store.now) (g.S.Store.told s)) (search rules) follows.4

pub returns-clause-halts : goal.returns-clause-halts
returns-clause-halts g c =
    let follows = rw c.new-recorder.ensures at c.record-outcome.ensures.follows in
    let last = ap (λ r. r.stop) c.into_reader-back.ensures in
    let below : c.rank.result ≡ rank c.args.key.now = c.rank.ensures ∙ ap rank_of c.kind.ensures in
    let moves = rw (sym last, below) at follows.5 in
    halts_of_run c.outcome_of.result c.args.w (rank c.args.key.now) c.into_reader-back.result.stop (g.S.Store.table c.args.store.now) _ c.outcome_of.ensures.err
    (subst (λ s. Moves c.args.w (rank c.args.key.now) None c.into_reader-back.result.stop (g.S.Store.table c.args.store.now) (g.S.Store.table s)) (search rules) moves)

pub outcome_of-requires : goal.outcome_of-requires
outcome_of-requires g c =
    let follows = rw c.new-recorder.ensures at c.record-outcome.ensures.follows in
    let last = ap (λ r. r.stop) c.into_reader-back.ensures in
    let below : c.rank.result ≡ rank c.args.key.now = c.rank.ensures ∙ ap rank_of c.kind.ensures in
    record {
      memory = λ none. wants_memory (g.R.Runner.queries.mean c.terms-profile.result.profile) (g.R.Runner.queries.reads c.terms-profile.result.profile) c.args.key.now c.record-outcome.new.recorder c.record-outcome.new.recorder.inner.stop c.record-outcome.new.recorder.inner.below c.record-outcome.result _
          (follows.3 ∙ below) (sym last ∙ none) c.record-outcome.ensures.fault c.reads-reads.ensures.keeps c.record-outcome.ensures.refused;
    }
