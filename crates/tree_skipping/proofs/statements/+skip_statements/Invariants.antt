use Rattle.std.proofs.Common.{◌≡◌, ◌+◌, ◌-◌, ◌*◌}
use Rattle.tree_skipping.specs.Skipping.{items_left, stmt_left}
use Rattle.tree_skipping.proofs.statements.+skip_statements.Given as goal

abbrev pub decreases-skip_stmt : goal.decreases-skip_stmt
decreases-skip_stmt l = 8 * l.room

abbrev pub decreases-skip_stmt_body : goal.decreases-skip_stmt_body
decreases-skip_stmt_body l = 8 * l.room + 7

abbrev pub decreases-skip_if : goal.decreases-skip_if
decreases-skip_if l = 8 * l.room + 6

abbrev pub decreases-skip_while : goal.decreases-skip_while
decreases-skip_while l = 8 * l.room + 6

abbrev pub decreases-skip_stmts : goal.decreases-skip_stmts
decreases-skip_stmts l = 8 * l.room + 3

abbrev pub decreases-skip_all_stmts : goal.decreases-skip_all_stmts
decreases-skip_all_stmts l = 8 * l.room + 2

abbrev pub invariant-skip_all_stmts-loop : goal.invariant-skip_all_stmts-loop
invariant-skip_all_stmts-loop l = items_left (stmt_left l.room) (l.count - l.counter) l.rest ≡ items_left (stmt_left l.room) l.count l.bytes
