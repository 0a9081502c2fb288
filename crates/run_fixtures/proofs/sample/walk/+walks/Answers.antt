use Rattle.std.proofs.Common.{rules, ◌≡◌, IfOk, IfErr, map, ap, ◌∙◌, subst, sym}
use Rattle.recorder.specs.Programs.{Goes, GivesUp, each}
use Rattle.recorder.proofs.Rules.{loop_more, loop_up, loop_end}
use Rattle.run_fixtures.specs.Phrases.{Phrase as SpecPhrase, Called, phrases_of}
use Rattle.run_fixtures.specs.Programs.{phrase_step, part_step}
use Rattle.run_fixtures.specs.View.{view_of}
use Rattle.run_fixtures.specs.declared.sample.phrase.Phrase.{Phrase}
use Rattle.run_fixtures.proofs.Parts.{view_call, called_ok, called_err, part_ok, part_err}
use Rattle.run_fixtures.proofs.sample.walk.+walks.Goals as goal

pub walk_parts-loop-phrase-preserved : goal.walk_parts-loop-phrase-preserved
walk_parts-loop-phrase-preserved g t c = record {
  at = loop_more (λ e. part_step (view_of e)) c.args.parts.now.items c.args.first c.args.recorder.now _ _ _ _ _ _ c.loop-phrase.invariant.at c.in_ok-found.ensures.ok (rw c.deref-phrase-items.ensures.value at c.loop-phrase-test.true) (rw c.deref-phrase-items.ensures.value at c.phrase-item.is);
  follows = g.met.D.Reader.transitive _ _ _ c.loop-phrase.invariant.follows c.in_ok-found.ensures.follows;
}

pub walk_parts-returns-in_err-found-clause-err : goal.walk_parts-returns-in_err-found-clause-err
walk_parts-returns-in_err-found-clause-err g t c =
    let h : GivesUp (each (λ e. part_step (view_of e)) c.args.parts.now.items c.args.first) c.args.recorder.now c.in_err-found.field-0.0 c.walk_part.new.recorder =
    loop_up (λ e. part_step (view_of e)) c.args.parts.now.items c.args.first c.args.recorder.now _ _ _ _ _ _ c.loop-phrase.invariant.at c.in_err-found.ensures.err (rw c.deref-phrase-items.ensures.value at c.loop-phrase-test.true) (rw c.deref-phrase-items.ensures.value at c.phrase-item.is) in
    search rules

pub walk_parts-returns-clause-ok : goal.walk_parts-returns-clause-ok
walk_parts-returns-clause-ok g t c = loop_end (λ e. part_step (view_of e)) c.args.parts.now.items c.args.first c.args.recorder.now _ _ _ c.loop-phrase.invariant.at (rw c.deref-phrase-items.ensures.value at c.loop-phrase-test.false)

pub walk-returns-in_ok-found-in-Call-clause-ok : goal.walk-returns-in_ok-found-in-Call-clause-ok
walk-returns-in_ok-found-in-Call-clause-ok g t c =
    let h = called_ok (view_of c.in-Call.front.value) c.in-Call.parts.items c.in_ok-found-in-Call.found c.args.recorder.now c.walk.new.recorder c.walk_parts.new.recorder c.walk_parts.result
    (subst (λ (x : Phrase). Goes (phrase_step (view_of x)) c.args.recorder.now c.in_ok-found-in-Call.found c.walk.new.recorder) c.deref.ensures c.in_ok-found-in-Call.ensures.ok)
    c.walk_parts.ensures.ok in
    let e : view_of c.args.phrase.now ≡ Called (view_of c.in-Call.front.value) (phrases_of (map view_of c.in-Call.parts.items)) = ap view_of c.in-Call.is ∙ view_call c.in-Call.front c.in-Call.parts in
    subst (λ (x : SpecPhrase). IfOk c.walk_parts.result (λ r. Goes (phrase_step x) c.args.recorder.now r c.walk_parts.new.recorder)) (sym e) h

pub walk-returns-in_ok-found-in-Call-clause-err : goal.walk-returns-in_ok-found-in-Call-clause-err
walk-returns-in_ok-found-in-Call-clause-err g t c =
    let h = called_err (view_of c.in-Call.front.value) c.in-Call.parts.items c.in_ok-found-in-Call.found c.args.recorder.now c.walk.new.recorder c.walk_parts.new.recorder c.walk_parts.result
    (subst (λ (x : Phrase). Goes (phrase_step (view_of x)) c.args.recorder.now c.in_ok-found-in-Call.found c.walk.new.recorder) c.deref.ensures c.in_ok-found-in-Call.ensures.ok)
    c.walk_parts.ensures.err in
    let e : view_of c.args.phrase.now ≡ Called (view_of c.in-Call.front.value) (phrases_of (map view_of c.in-Call.parts.items)) = ap view_of c.in-Call.is ∙ view_call c.in-Call.front c.in-Call.parts in
    subst (λ (x : SpecPhrase). IfErr c.walk_parts.result (λ r. GivesUp (phrase_step x) c.args.recorder.now r c.walk_parts.new.recorder)) (sym e) h

pub walk-returns-in_ok-found-in-Call-clause-follows : goal.walk-returns-in_ok-found-in-Call-clause-follows
walk-returns-in_ok-found-in-Call-clause-follows g t c = g.met.D.Reader.transitive _ _ _ c.in_ok-found-in-Call.ensures.follows c.walk_parts.ensures.follows

pub walk_part-returns-clause-ok : goal.walk_part-returns-clause-ok
walk_part-returns-clause-ok g t c =
    part_ok (view_of c.args.phrase.now) c.args.found c.in_ok-next.next c.args.recorder.now c.walk.new.recorder c.meet.new.recorder c.meet.result c.in_ok-next.ensures.ok c.meet.ensures.ok

pub walk_part-returns-clause-err : goal.walk_part-returns-clause-err
walk_part-returns-clause-err g t c =
    part_err (view_of c.args.phrase.now) c.args.found c.in_ok-next.next c.args.recorder.now c.walk.new.recorder c.meet.new.recorder c.meet.result c.in_ok-next.ensures.ok c.meet.ensures.err

pub walk_part-returns-clause-follows : goal.walk_part-returns-clause-follows
walk_part-returns-clause-follows g t c = g.met.D.Reader.transitive _ _ _ c.in_ok-next.ensures.follows c.meet.ensures.follows

pub walk_parts-returns-in_err-found-clause-follows : goal.walk_parts-returns-in_err-found-clause-follows
walk_parts-returns-in_err-found-clause-follows g t c = g.met.D.Reader.transitive _ _ _ c.loop-phrase.invariant.follows c.in_err-found.ensures.follows
