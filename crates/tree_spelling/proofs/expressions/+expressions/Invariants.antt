use Rattle.std.proofs.Common.{◌≡◌, ◌+◌, ◌-◌, ◌*◌, map, []}
use Rattle.mj_tree.specs.Views.{exp_view}
use Rattle.byte_readers.specs.Reading.{list_from, any}
use Rattle.tree_spelling.specs.Reading.{exp_at}
use Rattle.tree_spelling.proofs.expressions.+expressions.Given as goal

abbrev pub decreases-read_exp : goal.decreases-read_exp
decreases-read_exp l = 8 * l.room

abbrev pub decreases-read_exp_body : goal.decreases-read_exp_body
decreases-read_exp_body l = 8 * l.room + 7

abbrev pub decreases-read_two_parts : goal.decreases-read_two_parts
decreases-read_two_parts l = 8 * l.room + 6

abbrev pub decreases-read_one_part : goal.decreases-read_one_part
decreases-read_one_part l = 8 * l.room + 6

abbrev pub decreases-read_call : goal.decreases-read_call
decreases-read_call l = 8 * l.room + 6

abbrev pub decreases-read_exps : goal.decreases-read_exps
decreases-read_exps l = 8 * l.room + 3

abbrev pub decreases-read_all_exps : goal.decreases-read_all_exps
decreases-read_all_exps l = 8 * l.room + 2

abbrev pub decreases-read_boxed : goal.decreases-read_boxed
decreases-read_boxed l = 8 * l.room + 1

abbrev pub invariant-read_all_exps-loop : goal.invariant-read_all_exps-loop
invariant-read_all_exps-loop l = list_from (exp_at l.room) any (map exp_view l.items.items) (l.count - l.counter) l.rest ≡ list_from (exp_at l.room) any [] l.count l.bytes
