use Rattle.std.proofs.Common.{◌≤◌, List, [], ◌++◌, length, map, rules, sym, subst, arith}
use Rattle.mj_answer.specs.AnswerValues.{MethodRowValue}
use Rattle.ordered_names.specs.Order.{NameBefore, IsAscendingBy}
use Rattle.recorder.specs.Programs.{GivesUp, LoopAt, each}
use Rattle.recorder.proofs.Rules.{loop_start, loop_more, loop_up, loop_end}
use Rattle.member_queries.specs.Members.{types_step}
use Rattle.member_queries.specs.MemberTables.{member_name_view, member_names_view}
use Rattle.member_queries.proofs.MemberTables.{names_by, order_more, rows_ascend, seen_goes, seen_up}
use Rattle.member_queries.proofs.members.ask_all_types.Goals as goal

pub loop-method-init : goal.loop-method-init
loop-method-init g c = record {
  at = subst (λ (rows : List MethodRowValue). LoopAt (λ m. types_step (member_name_view m)) c.args.methods.now [] c.args.recorder.now 0 rows c.args.recorder.now) (sym c.new-rows.ensures.items)
      (loop_start (λ m. types_step (member_name_view m)) c.args.methods.now [] c.args.recorder.now);
  order = subst (λ (rows : List MethodRowValue). IsAscendingBy NameBefore (map (λ row. row.name) rows ++ map (λ m. m.name.now) c.args.methods.now)) (sym c.new-rows.ensures.items)
      (names_by (λ m. m.name.now) c.args.methods.now c.requires);
  follows = g.met.D.Reader.reflexive _;
}

pub loop-method-preserved : goal.loop-method-preserved
loop-method-preserved g c = record {
  at = loop_more (λ m. types_step (member_name_view m)) c.args.methods.now [] c.args.recorder.now _ _ _ _ _ _ c.loop-method.invariant.at c.in_ok-ask_types.ensures.ok c.loop-method-test.true c.method-item.is;
  order = order_more member_name_view c.args.methods.now c.loop-method.method-index c.method-item.result _ _ c.loop-method-test.true c.method-item.is c.in_ok-ask_types.ensures.row c.loop-method.invariant.order;
  follows = g.met.D.Reader.transitive _ _ _ c.loop-method.invariant.follows c.in_ok-ask_types.ensures.follows;
}

pub returns-in_err-ask_types-clause-err : goal.returns-in_err-ask_types-clause-err
returns-in_err-ask_types-clause-err g c =
    let h : GivesUp (each types_step (member_names_view c.args.methods.now) []) c.args.recorder.now c.in_err-ask_types.field-0.0 c.ask_types.new.recorder =
    seen_up types_step member_name_view c.args.methods.now [] c.args.recorder.now _ _
    (loop_up (λ m. types_step (member_name_view m)) c.args.methods.now [] c.args.recorder.now _ _ _ _ _ _ c.loop-method.invariant.at c.in_err-ask_types.ensures.err c.loop-method-test.true c.method-item.is) in
    search rules

pub returns-clause-ok : goal.returns-clause-ok
returns-clause-ok g c =
    let past : length c.args.methods.now ≤ c.loop-method.method-index = omega arith in
    seen_goes types_step member_name_view c.args.methods.now [] c.args.recorder.now _ _
    (loop_end (λ m. types_step (member_name_view m)) c.args.methods.now [] c.args.recorder.now _ _ _ c.loop-method.invariant.at past)

pub returns-clause-ordered : goal.returns-clause-ordered
returns-clause-ordered g c = rows_ascend c.loop-method.rows.items _ c.loop-method.invariant.order
