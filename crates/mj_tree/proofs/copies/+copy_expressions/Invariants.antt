use Rattle.std.proofs.Common.{◌≡◌, ◌+◌, ◌*◌, map, take, max}
use denote.Param.Weighed.{most}
use Rattle.mj_tree.proofs.tree.Exp.TheLaws.{the_size}
use Rattle.mj_tree.specs.Views.{exp_view}
use Rattle.mj_tree.proofs.copies.+copy_expressions.Given as goal

abbrev pub decreases-copy_exp : goal.decreases-copy_exp
decreases-copy_exp l = 4 * the_size l.e.now

abbrev pub decreases-copy_boxed : goal.decreases-copy_boxed
decreases-copy_boxed l = 4 * the_size l.part.now + 1

abbrev pub decreases-copy_binary : goal.decreases-copy_binary
decreases-copy_binary l = 4 * max (the_size l.left.now) (the_size l.right.now) + 2

abbrev pub decreases-copy_index : goal.decreases-copy_index
decreases-copy_index l = 4 * max (the_size l.array.now) (the_size l.index.now) + 2

abbrev pub decreases-copy_call : goal.decreases-copy_call
decreases-copy_call l = 4 * max (the_size l.receiver.now) (most (λ x. the_size x) l.arguments.now) + 3

abbrev pub decreases-copy_exps : goal.decreases-copy_exps
decreases-copy_exps l = 4 * goal.size-copy_exps l + 1

abbrev pub invariant-copy_exps-loop-e : goal.invariant-copy_exps-loop-e
invariant-copy_exps-loop-e l = map exp_view l.copies.items ≡ map exp_view (take l.e-index l.es)
