use Rattle.std.proofs.Common.{◌≡◌, ◌+◌, ◌*◌, map, take, max}
use Rattle.mj_tree.proofs.tree.Stmt.TheLaws.{the_size}
use Rattle.mj_tree.specs.Views.{stmt_view}
use Rattle.mj_tree.proofs.copies.+copy_statements.Given as goal

abbrev pub decreases-copy_stmt : goal.decreases-copy_stmt
decreases-copy_stmt l = 4 * the_size l.s.now

abbrev pub decreases-copy_block : goal.decreases-copy_block
decreases-copy_block l = 4 * goal.size-copy_block l + 2

abbrev pub decreases-copy_if : goal.decreases-copy_if
decreases-copy_if l = 4 * max (the_size l.then_branch.now) (the_size l.else_branch.now) + 2

abbrev pub decreases-copy_while : goal.decreases-copy_while
decreases-copy_while l = 4 * the_size l.body.now + 2

abbrev pub decreases-copy_branch : goal.decreases-copy_branch
decreases-copy_branch l = 4 * the_size l.part.now + 1

abbrev pub decreases-copy_stmts : goal.decreases-copy_stmts
decreases-copy_stmts l = 4 * goal.size-copy_stmts l + 1

abbrev pub invariant-copy_stmts-loop-s : goal.invariant-copy_stmts-loop-s
invariant-copy_stmts-loop-s l = map stmt_view l.copies.items ≡ map stmt_view (take l.s-index l.ss)
