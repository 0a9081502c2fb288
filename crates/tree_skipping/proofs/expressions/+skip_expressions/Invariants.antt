use Rattle.std.proofs.Common.{◌≡◌, ◌+◌, ◌-◌, ◌*◌}
use Rattle.tree_skipping.specs.Skipping.{items_left, exp_left}
use Rattle.tree_skipping.proofs.expressions.+skip_expressions.Given as goal

abbrev pub decreases-skip_exp : goal.decreases-skip_exp
decreases-skip_exp l = 8 * l.room

abbrev pub decreases-skip_exp_body : goal.decreases-skip_exp_body
decreases-skip_exp_body l = 8 * l.room + 7

abbrev pub decreases-skip_two_parts : goal.decreases-skip_two_parts
decreases-skip_two_parts l = 8 * l.room + 6

abbrev pub decreases-skip_call : goal.decreases-skip_call
decreases-skip_call l = 8 * l.room + 6

abbrev pub decreases-skip_exps : goal.decreases-skip_exps
decreases-skip_exps l = 8 * l.room + 3

abbrev pub decreases-skip_all_exps : goal.decreases-skip_all_exps
decreases-skip_all_exps l = 8 * l.room + 2

abbrev pub invariant-skip_all_exps-loop : goal.invariant-skip_all_exps-loop
invariant-skip_all_exps-loop l = items_left (exp_left l.room) (l.count - l.counter) l.rest ≡ items_left (exp_left l.room) l.count l.bytes
