use Rattle.std.proofs.Common.{◌≡◌, ◌+◌, ◌-◌, ◌*◌, map, []}
use Rattle.mj_tree.specs.Views.{stmt_view}
use Rattle.byte_readers.specs.Reading.{list_from, any}
use Rattle.tree_spelling.specs.Reading.{stmt_at}
use Rattle.tree_spelling.proofs.statements.+statements.Given as goal

abbrev pub decreases-read_stmt : goal.decreases-read_stmt
decreases-read_stmt l = 8 * l.room

abbrev pub decreases-read_stmt_body : goal.decreases-read_stmt_body
decreases-read_stmt_body l = 8 * l.room + 7

abbrev pub decreases-read_block : goal.decreases-read_block
decreases-read_block l = 8 * l.room + 6

abbrev pub decreases-read_if : goal.decreases-read_if
decreases-read_if l = 8 * l.room + 6

abbrev pub decreases-read_while : goal.decreases-read_while
decreases-read_while l = 8 * l.room + 6

abbrev pub decreases-read_boxed : goal.decreases-read_boxed
decreases-read_boxed l = 8 * l.room + 1

abbrev pub decreases-read_stmts : goal.decreases-read_stmts
decreases-read_stmts l = 8 * l.room + 3

abbrev pub decreases-read_all_stmts : goal.decreases-read_all_stmts
decreases-read_all_stmts l = 8 * l.room + 2

abbrev pub invariant-read_all_stmts-loop : goal.invariant-read_all_stmts-loop
invariant-read_all_stmts-loop l = list_from (stmt_at l.room) any (map stmt_view l.items.items) (l.count - l.counter) l.rest ≡ list_from (stmt_at l.room) any [] l.count l.bytes
