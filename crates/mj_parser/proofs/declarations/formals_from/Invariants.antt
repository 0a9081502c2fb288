use Rattle.std.proofs.Common.{ℕ, Option, List, ◌-◌, ◌≤◌, length}
use Rattle.mj_tree.specs.declared.tree.Variable.{Variable}
use Rattle.mj_parser.specs.FileReading.{variable_at}
use Rattle.mj_expressions.proofs.Items.{ListLeads}
use Rattle.mj_parser.proofs.declarations.formals_from.Given as goal

abbrev pub invariant-list : goal.invariant-list
invariant-list l = record {
  within : l.formals.after ≤ length l.tokens;
  onward : l.initial.formals.after ≤ l.formals.after;
  so_far : (total : Option (List Variable × ℕ)) → ListLeads (variable_at l.tokens) l.tokens l.formals.tree.items l.formals.after total → ListLeads (variable_at l.tokens) l.tokens l.initial.formals.tree.items l.initial.formals.after total;
}

abbrev pub decreases-list : goal.decreases-list
decreases-list l = length l.tokens - l.formals.after
