use Rattle.std.proofs.Common.{◌≡◌, ◌++◌, ◌+◌, ◌*◌, drop, max}
use denote.Param.Weighed.{most}
use Rattle.mj_tree.proofs.tree.Exp.TheLaws.{the_size}
use Rattle.mj_tree.specs.Views.{exps_view}
use Rattle.tree_spelling.specs.Spelling.{exps}
use Rattle.tree_spelling.proofs.writing.+put_expressions.Given as goal

abbrev pub decreases-put_exp : goal.decreases-put_exp
decreases-put_exp l = 4 * goal.size-put_exp l

abbrev pub decreases-put_two_parts : goal.decreases-put_two_parts
decreases-put_two_parts l = 4 * max (the_size l.first.now) (the_size l.second.now) + 1

abbrev pub decreases-put_one_part : goal.decreases-put_one_part
decreases-put_one_part l = 4 * goal.size-put_one_part l + 1

abbrev pub decreases-put_call : goal.decreases-put_call
decreases-put_call l = 4 * max (the_size l.receiver.now) (most (λ x. the_size x) l.arguments.now) + 3

abbrev pub decreases-put_arguments : goal.decreases-put_arguments
decreases-put_arguments l = 4 * goal.size-put_arguments l + 2

abbrev pub decreases-put_exps : goal.decreases-put_exps
decreases-put_exps l = 4 * goal.size-put_exps l + 1

abbrev pub invariant-put_exps-loop-e : goal.invariant-put_exps-loop-e
invariant-put_exps-loop-e l = l.out.items ++ exps (exps_view (drop l.e-index l.es)) ≡ l.fn.out.items ++ exps (exps_view l.es)
