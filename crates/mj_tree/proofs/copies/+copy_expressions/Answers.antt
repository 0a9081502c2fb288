use Rattle.mj_tree.proofs.Calls.{seen_call}
use Rattle.mj_tree.proofs.copies.+copy_expressions.Goals as goal

pub copy_exp-returns-in-Call : goal.copy_exp-returns-in-Call
copy_exp-returns-in-Call t c = rw (seen_call c.args.e.now _ _ _ _ _ _ c.in-Call.is c.deref-in-Call.ensures c.deref-in-Call-2.ensures.value) c.copy_call.ensures
