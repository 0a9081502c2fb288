use Rattle.std.proofs.Common.{◌≡◌, ℕ, suc, Option, List, ◌-◌, ◌≤◌, length, map}
use Rattle.mj_tree.specs.Trees.{Class}
use Rattle.mj_tree.specs.Views.{class_view}
use Rattle.mj_expressions.specs.Steps.{items_from}
use Rattle.mj_parser.specs.FileReading.{class_at, before_end}
use Rattle.mj_expressions.proofs.Items.{ItemsLead}
use Rattle.mj_parser.proofs.files.classes.Given as goal

abbrev pub invariant-items : goal.invariant-items
invariant-items l = record {
  within : l.after ≤ length l.tokens;
  onward : l.at ≤ l.after;
  so_far : (total : Option (List Class × ℕ)) → ItemsLead (class_at l.tokens) (before_end l.tokens) (length l.tokens) (map class_view l.items.items) l.after total → items_from (suc (length l.tokens)) (class_at l.tokens) (before_end l.tokens) l.at ≡ total;
}

abbrev pub decreases-items : goal.decreases-items
decreases-items l = length l.tokens - l.after
