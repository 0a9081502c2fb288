use Rattle.std.proofs.Common.{◌≡◌, ◌-◌}
use Rattle.tree_skipping.specs.Skipping.{items_left, variable_left}
use Rattle.tree_skipping.proofs.parts.skip_all_variables.Given as goal

abbrev pub invariant-loop : goal.invariant-loop
invariant-loop l = items_left variable_left (l.count - l.counter) l.rest ≡ items_left variable_left l.count l.bytes
