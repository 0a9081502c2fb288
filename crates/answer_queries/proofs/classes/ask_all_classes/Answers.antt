use Rattle.std.proofs.Common.{◌∷◌, ◌++◌, [], List, map, take, rules, sym, ap, ◌∙◌}
use Rattle.std.proofs.lemmas.List.{map_more}
use Rattle.mj_tree.specs.Trees.{Name}
use Rattle.result_bytes.specs.declared.files.IndexRow.{IndexRow}
use Rattle.recorder.specs.Programs.{GivesUp, each}
use Rattle.recorder.proofs.Rules.{loop_more, loop_up}
use Rattle.answer_queries.specs.Answer.{class_step}
use Rattle.answer_queries.proofs.classes.ask_all_classes.Goals as goal

pub loop-row-preserved : goal.loop-row-preserved
loop-row-preserved g c =
    let rows = c.args.rows.now in
    let i = c.loop-row.row-index in
    let row = c.row-item.result in
    record {
      at = loop_more class_step rows [] c.args.recorder.now _ _ _ _ _ _ c.loop-row.invariant.at c.in_ok-ask_class.ensures.ok c.loop-row-test.true c.row-item.is;
      named =
          c.in_ok-ask_class.ensures.named
          ∙ (ap (λ (ns : List Name). ns ++ row.class ∷ []) c.loop-row.invariant.named
          ∙ (ap (λ (r : IndexRow). map (λ (x : IndexRow). x.class) (take i rows) ++ r.class ∷ []) c.row-item.is
          ∙ sym (map_more (λ (x : IndexRow). x.class) rows i row c.loop-row-test.true)));
      storable = c.in_ok-ask_class.ensures.storable;
      follows = g.met.D.Reader.transitive _ _ _ c.loop-row.invariant.follows c.in_ok-ask_class.ensures.follows;
    }

pub returns-in_err-ask_class-clause-err : goal.returns-in_err-ask_class-clause-err
returns-in_err-ask_class-clause-err g c =
    let h : GivesUp (each class_step c.args.rows.now []) c.args.recorder.now c.in_err-ask_class.field-0.0 c.ask_class.new.recorder =
    loop_up class_step c.args.rows.now [] c.args.recorder.now _ _ _ _ _ _ c.loop-row.invariant.at c.in_err-ask_class.ensures.err c.loop-row-test.true c.row-item.is in
    search rules
