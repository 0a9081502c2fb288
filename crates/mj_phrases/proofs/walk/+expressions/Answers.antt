use Rattle.std.proofs.Common.{rules, refl, ap, Some}
use Rattle.mj_tree.specs.Views.{exp_view, exps_view}
use Rattle.mj_phrases.specs.declared.asking.Stop.TheVariants.{OutOfMemory}
use Rattle.mj_phrases.specs.Phrases.{phrase_step, parts_step}
use Rattle.mj_phrases.specs.Steps.{Aborts}
use Rattle.mj_phrases.specs.Table.{phrase_of, phrases_of, one_part, two_parts, some_parts, negation, binary, index, array_length, new_array, call}
use Rattle.mj_phrases.proofs.Views.{exp_view-Not, exp_view-Length, exp_view-NewArray, exp_view-Binary, exp_view-Index, exp_view-Call}
use Rattle.mj_phrases.proofs.Walks.{if_ok, if_err, goes_one, goes_two, goes_whole, up_whole, up_others, memory_one, memory_two, parts_start, parts_more, parts_up, parts_memory, parts_done}
use Rattle.mj_phrases.proofs.walk.+expressions.Goals as goal

pub check-returns-in_ok-operand-in-Not-clause-ok : goal.check-returns-in_ok-operand-in-Not-clause-ok
check-returns-in_ok-operand-in-Not-clause-ok g t c =
    rw (c.in-Not.is, exp_view-Not c.in-Not.mark c.in-Not.operand, ← c.deref-in-Not.ensures)
    (if_ok c.conclude_negation.result (λ ty yields. goes_one g.A.Asking.stands g.A.Asking.halts c.in-Not.mark (one_part negation) (phrase_of c.args.scope.now (exp_view c.deref-in-Not.result.now)) c.args.mistakes.now.items _ _ _ _ c.in_ok-operand-in-Not.ensures.ok yields) c.conclude_negation.ensures.ok)

pub check-returns-in_ok-operand-in-Not-clause-err : goal.check-returns-in_ok-operand-in-Not-clause-err
check-returns-in_ok-operand-in-Not-clause-err g t c =
    rw (c.in-Not.is, exp_view-Not c.in-Not.mark c.in-Not.operand, ← c.deref-in-Not.ensures)
    (memory_one g.A.Asking.stands g.A.Asking.halts OutOfMemory g.met.A.Asking.wanting c.in-Not.mark (one_part negation) c.args.mistakes.now.items (phrase_of c.args.scope.now (exp_view c.deref-in-Not.result.now)) _ _ _ c.in_ok-operand-in-Not.ensures.ok c.conclude_negation.result c.conclude_negation.ensures.err)

pub check-returns-in_ok-right-in-Binary-clause-ok : goal.check-returns-in_ok-right-in-Binary-clause-ok
check-returns-in_ok-right-in-Binary-clause-ok g t c =
    rw (c.in-Binary.is, exp_view-Binary c.in-Binary.operator c.in-Binary.mark c.in-Binary.left c.in-Binary.right, ← c.deref-in-Binary.ensures, ← c.deref-in-Binary-2.ensures)
    (if_ok c.conclude_binary.result (λ ty yields. goes_two g.A.Asking.stands g.A.Asking.halts c.in-Binary.mark (two_parts (binary c.in-Binary.operator)) (phrase_of c.args.scope.now (exp_view c.deref-in-Binary.result.now)) (phrase_of c.args.scope.now (exp_view c.deref-in-Binary-2.result.now)) c.args.mistakes.now.items _ _ _ _ _ _ c.in_ok-left-in-Binary.ensures.ok c.in_ok-right-in-Binary.ensures.ok yields) c.conclude_binary.ensures.ok)

pub check-returns-in_ok-right-in-Binary-clause-err : goal.check-returns-in_ok-right-in-Binary-clause-err
check-returns-in_ok-right-in-Binary-clause-err g t c =
    rw (c.in-Binary.is, exp_view-Binary c.in-Binary.operator c.in-Binary.mark c.in-Binary.left c.in-Binary.right, ← c.deref-in-Binary.ensures, ← c.deref-in-Binary-2.ensures)
    (memory_two g.A.Asking.stands g.A.Asking.halts OutOfMemory g.met.A.Asking.wanting c.in-Binary.mark (two_parts (binary c.in-Binary.operator)) c.args.mistakes.now.items (phrase_of c.args.scope.now (exp_view c.deref-in-Binary.result.now)) (phrase_of c.args.scope.now (exp_view c.deref-in-Binary-2.result.now)) _ _ _ _ _ c.in_ok-left-in-Binary.ensures.ok c.in_ok-right-in-Binary.ensures.ok c.conclude_binary.result c.conclude_binary.ensures.err)

pub check-returns-in_ok-index-in-Index-clause-ok : goal.check-returns-in_ok-index-in-Index-clause-ok
check-returns-in_ok-index-in-Index-clause-ok g t c =
    rw (c.in-Index.is, exp_view-Index c.in-Index.mark c.in-Index.array c.in-Index.index, ← c.deref-in-Index.ensures, ← c.deref-in-Index-2.ensures)
    (if_ok c.conclude_index.result (λ ty yields. goes_two g.A.Asking.stands g.A.Asking.halts c.in-Index.mark (two_parts index) (phrase_of c.args.scope.now (exp_view c.deref-in-Index.result.now)) (phrase_of c.args.scope.now (exp_view c.deref-in-Index-2.result.now)) c.args.mistakes.now.items _ _ _ _ _ _ c.in_ok-array-in-Index.ensures.ok c.in_ok-index-in-Index.ensures.ok yields) c.conclude_index.ensures.ok)

pub check-returns-in_ok-index-in-Index-clause-err : goal.check-returns-in_ok-index-in-Index-clause-err
check-returns-in_ok-index-in-Index-clause-err g t c =
    rw (c.in-Index.is, exp_view-Index c.in-Index.mark c.in-Index.array c.in-Index.index, ← c.deref-in-Index.ensures, ← c.deref-in-Index-2.ensures)
    (memory_two g.A.Asking.stands g.A.Asking.halts OutOfMemory g.met.A.Asking.wanting c.in-Index.mark (two_parts index) c.args.mistakes.now.items (phrase_of c.args.scope.now (exp_view c.deref-in-Index.result.now)) (phrase_of c.args.scope.now (exp_view c.deref-in-Index-2.result.now)) _ _ _ _ _ c.in_ok-array-in-Index.ensures.ok c.in_ok-index-in-Index.ensures.ok c.conclude_index.result c.conclude_index.ensures.err)

pub check-returns-in_ok-array-in-Length-clause-ok : goal.check-returns-in_ok-array-in-Length-clause-ok
check-returns-in_ok-array-in-Length-clause-ok g t c =
    rw (c.in-Length.is, exp_view-Length c.in-Length.mark c.in-Length.array, ← c.deref-in-Length.ensures)
    (if_ok c.conclude_length.result (λ ty yields. goes_one g.A.Asking.stands g.A.Asking.halts c.in-Length.mark (one_part array_length) (phrase_of c.args.scope.now (exp_view c.deref-in-Length.result.now)) c.args.mistakes.now.items _ _ _ _ c.in_ok-array-in-Length.ensures.ok yields) c.conclude_length.ensures.ok)

pub check-returns-in_ok-array-in-Length-clause-err : goal.check-returns-in_ok-array-in-Length-clause-err
check-returns-in_ok-array-in-Length-clause-err g t c =
    rw (c.in-Length.is, exp_view-Length c.in-Length.mark c.in-Length.array, ← c.deref-in-Length.ensures)
    (memory_one g.A.Asking.stands g.A.Asking.halts OutOfMemory g.met.A.Asking.wanting c.in-Length.mark (one_part array_length) c.args.mistakes.now.items (phrase_of c.args.scope.now (exp_view c.deref-in-Length.result.now)) _ _ _ c.in_ok-array-in-Length.ensures.ok c.conclude_length.result c.conclude_length.ensures.err)

pub check-returns-in_ok-length-in-NewArray-clause-ok : goal.check-returns-in_ok-length-in-NewArray-clause-ok
check-returns-in_ok-length-in-NewArray-clause-ok g t c =
    rw (c.in-NewArray.is, exp_view-NewArray c.in-NewArray.mark c.in-NewArray.length, ← c.deref-in-NewArray.ensures)
    (if_ok c.conclude_new_array.result (λ ty yields. goes_one g.A.Asking.stands g.A.Asking.halts c.in-NewArray.mark (one_part new_array) (phrase_of c.args.scope.now (exp_view c.deref-in-NewArray.result.now)) c.args.mistakes.now.items _ _ _ _ c.in_ok-length-in-NewArray.ensures.ok yields) c.conclude_new_array.ensures.ok)

pub check-returns-in_ok-length-in-NewArray-clause-err : goal.check-returns-in_ok-length-in-NewArray-clause-err
check-returns-in_ok-length-in-NewArray-clause-err g t c =
    rw (c.in-NewArray.is, exp_view-NewArray c.in-NewArray.mark c.in-NewArray.length, ← c.deref-in-NewArray.ensures)
    (memory_one g.A.Asking.stands g.A.Asking.halts OutOfMemory g.met.A.Asking.wanting c.in-NewArray.mark (one_part new_array) c.args.mistakes.now.items (phrase_of c.args.scope.now (exp_view c.deref-in-NewArray.result.now)) _ _ _ c.in_ok-length-in-NewArray.ensures.ok c.conclude_new_array.result c.conclude_new_array.ensures.err)

pub check-returns-in_err-types-in-Call-clause-err : goal.check-returns-in_err-types-in-Call-clause-err
check-returns-in_err-types-in-Call-clause-err g t c =
    let h : Aborts g.A.Asking.stands g.A.Asking.halts (phrase_step (phrase_of c.args.scope.now (exp_view c.args.exp.now)) c.args.mistakes.now.items) c.args.asking.now c.in_err-types-in-Call.field-0.0 c.check_all.new.asking =
    rw (c.in-Call.is, exp_view-Call c.in-Call.mark c.in-Call.receiver c.in-Call.method c.in-Call.arguments, ← c.deref-in-Call.ensures) (up_others g.A.Asking.stands g.A.Asking.halts c.in-Call.mark (some_parts (call c.in-Call.method)) (phrase_of c.args.scope.now (exp_view c.deref-in-Call.result.now)) (phrases_of c.args.scope.now (exps_view c.in-Call.arguments.items)) c.args.mistakes.now.items _ _ _ _ _ c.in_ok-receiver-in-Call.ensures.ok c.in_err-types-in-Call.ensures.err) in
    search rules

pub check-returns-in_ok-types-in-Call-clause-ok : goal.check-returns-in_ok-types-in-Call-clause-ok
check-returns-in_ok-types-in-Call-clause-ok g t c =
    rw (c.in-Call.is, exp_view-Call c.in-Call.mark c.in-Call.receiver c.in-Call.method c.in-Call.arguments, ← c.deref-in-Call.ensures)
    (if_ok c.conclude_call.result (λ ty h. goes_whole g.A.Asking.stands g.A.Asking.halts c.in-Call.mark (some_parts (call c.in-Call.method)) (phrase_of c.args.scope.now (exp_view c.deref-in-Call.result.now)) (phrases_of c.args.scope.now (exps_view c.in-Call.arguments.items)) c.args.mistakes.now.items _ _ _ _ _ _ _ c.in_ok-receiver-in-Call.ensures.ok c.in_ok-types-in-Call.ensures.ok h) c.conclude_call.ensures.ok)

pub check-returns-in_ok-types-in-Call-clause-err : goal.check-returns-in_ok-types-in-Call-clause-err
check-returns-in_ok-types-in-Call-clause-err g t c =
    rw (c.in-Call.is, exp_view-Call c.in-Call.mark c.in-Call.receiver c.in-Call.method c.in-Call.arguments, ← c.deref-in-Call.ensures)
    (if_err c.conclude_call.result (λ e h. up_whole g.A.Asking.stands g.A.Asking.halts c.in-Call.mark (some_parts (call c.in-Call.method)) (phrase_of c.args.scope.now (exp_view c.deref-in-Call.result.now)) (phrases_of c.args.scope.now (exps_view c.in-Call.arguments.items)) c.args.mistakes.now.items _ _ _ _ _ _ _ c.in_ok-receiver-in-Call.ensures.ok c.in_ok-types-in-Call.ensures.ok h) c.conclude_call.ensures.err)

pub check_all-loop-exp-init : goal.check_all-loop-exp-init
check_all-loop-exp-init g t c = record {
  left = parts_start g.A.Asking.stands g.A.Asking.halts c.args.scope.now c.args.exps.now.items c.args.mistakes.now.items c.args.asking.now _ (ap (λ xs. Some xs) c.new.ensures.items);
  follows = g.met.A.Asking.reflexive _;
}

pub check_all-returns-in_err-ty-clause-err : goal.check_all-returns-in_err-ty-clause-err
check_all-returns-in_err-ty-clause-err g t c =
    let h : Aborts g.A.Asking.stands g.A.Asking.halts (parts_step (phrases_of c.args.scope.now (exps_view c.args.exps.now.items)) c.args.mistakes.now.items) c.args.asking.now c.in_err-ty.field-0.0 c.check.new.asking =
    parts_up g.A.Asking.stands g.A.Asking.halts c.args.scope.now c.args.exps.now.items c.args.mistakes.now.items c.args.asking.now _ _ _ _ _ _ _ c.loop-exp.invariant.left (rw c.deref-exp-items.ensures.value at c.loop-exp-test.true) (rw c.deref-exp-items.ensures.value at c.exp-item.is) c.in_err-ty.ensures.err in
    search rules

pub check_all-returns-in_err-types-clause-err : goal.check_all-returns-in_err-types-clause-err
check_all-returns-in_err-types-clause-err g t c =
    let h : Aborts g.A.Asking.stands g.A.Asking.halts (parts_step (phrases_of c.args.scope.now (exps_view c.args.exps.now.items)) c.args.mistakes.now.items) c.args.asking.now OutOfMemory c.check.new.asking =
    parts_memory g.A.Asking.stands g.A.Asking.halts c.args.scope.now c.args.exps.now.items c.args.mistakes.now.items c.args.asking.now OutOfMemory g.met.A.Asking.wanting _ _ _ _
    (parts_more g.A.Asking.stands g.A.Asking.halts c.args.scope.now c.args.exps.now.items c.args.mistakes.now.items c.args.asking.now _ _ _ _ _ _ _ _ _ c.loop-exp.invariant.left (rw c.deref-exp-items.ensures.value at c.loop-exp-test.true) (rw c.deref-exp-items.ensures.value at c.exp-item.is) c.in_ok-ty.ensures.ok refl) in
    search rules

pub check_all-loop-exp-preserved : goal.check_all-loop-exp-preserved
check_all-loop-exp-preserved g t c = record {
  left = parts_more g.A.Asking.stands g.A.Asking.halts c.args.scope.now c.args.exps.now.items c.args.mistakes.now.items c.args.asking.now _ _ _ _ _ _ _ _ _ c.loop-exp.invariant.left (rw c.deref-exp-items.ensures.value at c.loop-exp-test.true) (rw c.deref-exp-items.ensures.value at c.exp-item.is) c.in_ok-ty.ensures.ok c.in_ok-types.ensures;
  follows = g.met.A.Asking.transitive _ _ _ c.loop-exp.invariant.follows c.in_ok-ty.ensures.follows;
}

pub check_all-returns-clause-ok : goal.check_all-returns-clause-ok
check_all-returns-clause-ok g t c = parts_done g.A.Asking.stands g.A.Asking.halts c.args.scope.now c.args.exps.now.items c.args.mistakes.now.items c.args.asking.now _ _ _ _ c.loop-exp.invariant.left (rw c.deref-exp-items.ensures.value at c.loop-exp-test.false)
