use Rattle.std.proofs.lemmas.Result.{on_ok_weaker}
use Rattle.mj_tree.proofs.Calls.{seen_call}
use Rattle.tree_spelling.proofs.Written.{count_exps_view, one_more}
use Rattle.tree_spelling.proofs.writing.+put_expressions.Goals as goal

pub put_arguments-returns : goal.put_arguments-returns
put_arguments-returns t c = on_ok_weaker c.put_exps.result (λ h. rw (count_exps_view c.args.es.now) (one_more c.args.out.now.items _ _ _ _ c.in_ok-put_eight.ensures h)) c.put_exps.ensures

pub put_exp-returns-in-Call : goal.put_exp-returns-in-Call
put_exp-returns-in-Call t c = rw (seen_call c.args.e.now _ _ _ _ _ _ c.in-Call.is c.deref-in-Call.ensures c.deref-in-Call-2.ensures.value) c.put_call.ensures
