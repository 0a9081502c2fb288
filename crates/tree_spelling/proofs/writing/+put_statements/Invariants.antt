use Rattle.std.proofs.Common.{◌≡◌, ◌++◌, ◌+◌, ◌*◌, drop, max}
use Rattle.mj_tree.proofs.tree.Stmt.TheLaws.{the_size}
use Rattle.mj_tree.specs.Views.{stmts_view}
use Rattle.tree_spelling.specs.Spelling.{stmts}
use Rattle.tree_spelling.proofs.writing.+put_statements.Given as goal

abbrev pub decreases-put_stmt : goal.decreases-put_stmt
decreases-put_stmt l = 3 * the_size l.s.now

abbrev pub decreases-put_if : goal.decreases-put_if
decreases-put_if l = 3 * max (the_size l.then_branch.now) (the_size l.else_branch.now) + 1

abbrev pub decreases-put_while : goal.decreases-put_while
decreases-put_while l = 3 * the_size l.body.now + 1

abbrev pub decreases-put_body : goal.decreases-put_body
decreases-put_body l = 3 * goal.size-put_body l + 2

abbrev pub decreases-put_stmts : goal.decreases-put_stmts
decreases-put_stmts l = 3 * goal.size-put_stmts l + 1

abbrev pub invariant-put_stmts-loop-s : goal.invariant-put_stmts-loop-s
invariant-put_stmts-loop-s l = l.out.items ++ stmts (stmts_view (drop l.s-index l.ss)) ≡ l.fn.out.items ++ stmts (stmts_view l.ss)
