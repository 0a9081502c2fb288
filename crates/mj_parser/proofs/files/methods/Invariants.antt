use Rattle.std.proofs.Common.{◌≡◌, ℕ, suc, Option, List, ◌-◌, ◌≤◌, length, map}
use Rattle.mj_tree.specs.Trees.{Method}
use Rattle.mj_tree.specs.Views.{method_view}
use Rattle.mj_expressions.specs.Steps.{items_from}
use Rattle.mj_parser.specs.FileReading.{method_from, at_public}
use Rattle.mj_expressions.proofs.Items.{ItemsLead}
use Rattle.mj_parser.proofs.files.methods.Given as goal

abbrev pub invariant-items : goal.invariant-items
invariant-items l = record {
  within : l.after ≤ length l.tokens;
  onward : l.at ≤ l.after;
  so_far : (total : Option (List Method × ℕ)) → ItemsLead (method_from l.tokens) (at_public l.tokens) (length l.tokens) (map method_view l.items.items) l.after total → items_from (suc (length l.tokens)) (method_from l.tokens) (at_public l.tokens) l.at ≡ total;
}

abbrev pub decreases-items : goal.decreases-items
decreases-items l = length l.tokens - l.after
