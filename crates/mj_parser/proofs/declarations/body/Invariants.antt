use Rattle.std.proofs.Common.{◌≡◌, ℕ, suc, Option, List, ◌-◌, ◌≤◌, length, map}
use Rattle.mj_tree.specs.Trees.{Statement}
use Rattle.mj_tree.specs.Views.{stmt_view}
use Rattle.mj_expressions.specs.Steps.{items_from}
use Rattle.mj_parser.specs.FileReading.{not_return}
use Rattle.mj_parser.specs.StatementReading.{stmt_at}
use Rattle.mj_expressions.proofs.Items.{ItemsLead}
use Rattle.mj_parser.proofs.declarations.body.Given as goal

abbrev pub invariant-items : goal.invariant-items
invariant-items l = record {
  within : l.after ≤ length l.tokens;
  onward : l.at ≤ l.after;
  so_far : (total : Option (List Statement × ℕ)) → ItemsLead (stmt_at 500 l.tokens) (not_return l.tokens) (length l.tokens) (map stmt_view l.items.items) l.after total → items_from (suc (length l.tokens)) (stmt_at 500 l.tokens) (not_return l.tokens) l.at ≡ total;
}

abbrev pub decreases-items : goal.decreases-items
decreases-items l = length l.tokens - l.after
