use Rattle.std.proofs.Common.{◌≡◌, ℕ, suc, Option, List, ◌+◌, ◌-◌, ◌*◌, ◌≤◌, length, map}
use Rattle.mj_tree.specs.Trees.{Statement}
use Rattle.mj_tree.specs.Views.{stmt_view}
use Rattle.mj_expressions.specs.Steps.{items_from}
use Rattle.mj_parser.specs.StatementReading.{not_brace, stmt_at}
use Rattle.mj_expressions.proofs.Items.{ItemsLead}
use Rattle.mj_parser.proofs.statements.+statements.Given as goal

abbrev pub decreases-statement : goal.decreases-statement
decreases-statement l = 4 * l.room

abbrev pub decreases-choice : goal.decreases-choice
decreases-choice l = 4 * l.room + 2

abbrev pub decreases-branch : goal.decreases-branch
decreases-branch l = 4 * l.room + 1

abbrev pub decreases-repetition : goal.decreases-repetition
decreases-repetition l = 4 * l.room + 2

abbrev pub decreases-read_block : goal.decreases-read_block
decreases-read_block l = 4 * l.room + 1

abbrev pub decreases-block : goal.decreases-block
decreases-block l = 4 * l.room + 2

abbrev pub invariant-read_block-items : goal.invariant-read_block-items
invariant-read_block-items l = record {
  within : l.after ≤ length l.tokens;
  onward : l.at ≤ l.after;
  so_far : (total : Option (List Statement × ℕ)) → ItemsLead (stmt_at l.room l.tokens) (not_brace l.tokens) (length l.tokens) (map stmt_view l.stmts.items) l.after total → items_from (suc (length l.tokens)) (stmt_at l.room l.tokens) (not_brace l.tokens) l.at ≡ total;
}

abbrev pub decreases-read_block-items : goal.decreases-read_block-items
decreases-read_block-items l = length l.tokens - l.after
