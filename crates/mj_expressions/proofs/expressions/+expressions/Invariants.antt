use Rattle.std.proofs.Common.{◌≡◌, ℕ, Option, List, ◌<◌, ◌+◌, ◌-◌, ◌*◌, ◌≤◌, length, map}
use Rattle.mj_tree.specs.Trees.{Expression}
use Rattle.mj_tree.specs.Views.{exp_view, exps_view}
use Rattle.mj_expressions.specs.Expressions.{height, heights}
use Rattle.mj_expressions.specs.Steps.{listed_at}
use Rattle.mj_expressions.specs.ExpressionReading.{Reading, exp_at}
use Rattle.mj_expressions.proofs.Items.{ListLeads, closed_list}
use Rattle.mj_expressions.proofs.Loops.{ChainLeads, PostLeads}
use Rattle.mj_expressions.proofs.expressions.+expressions.Given as goal

abbrev pub decreases-read : goal.decreases-read
decreases-read l = 16 * l.room + 8 + l.tier

abbrev pub decreases-read_tier : goal.decreases-read_tier
decreases-read_tier l = 16 * (l.room + 1) + 4 + l.tier

abbrev pub decreases-post : goal.decreases-post
decreases-post l = 16 * (l.room + 1) + 3

abbrev pub decreases-prim : goal.decreases-prim
decreases-prim l = 16 * (l.room + 1) + 1

abbrev pub decreases-chain : goal.decreases-chain
decreases-chain l = 16 * (l.room + 1)

abbrev pub invariant-chain-chain : goal.invariant-chain-chain
invariant-chain-chain l = record {
  within : l.left.after ≤ length l.tokens;
  onward : l.initial.left.after ≤ l.left.after;
  height_is : l.left.height ≡ height (exp_view l.left.exp);
  low : l.left.height ≤ l.room + 1;
  so_far : (total : Reading) → ChainLeads (exp_at l.room l.tokens) l.tokens l.room l.tier (exp_view l.left.exp) l.left.after total → ChainLeads (exp_at l.room l.tokens) l.tokens l.room l.tier (exp_view l.initial.left.exp) l.initial.left.after total;
}

abbrev pub decreases-chain-chain : goal.decreases-chain-chain
decreases-chain-chain l = length l.tokens - l.left.after

abbrev pub decreases-read_new : goal.decreases-read_new
decreases-read_new l = 16 * (l.room + 1)

abbrev pub decreases-read_suffixes : goal.decreases-read_suffixes
decreases-read_suffixes l = 16 * (l.room + 1) + 2

abbrev pub decreases-index : goal.decreases-index
decreases-index l = 16 * (l.room + 1) + 1

abbrev pub decreases-member : goal.decreases-member
decreases-member l = 16 * (l.room + 1) + 1

abbrev pub decreases-arguments : goal.decreases-arguments
decreases-arguments l = 16 * (l.room + 1)

abbrev pub invariant-read_suffixes-items : goal.invariant-read_suffixes-items
invariant-read_suffixes-items l = record {
  within : l.left.after ≤ length l.tokens;
  onward : l.initial.left.after ≤ l.left.after;
  height_is : l.left.height ≡ height (exp_view l.left.exp);
  low : l.left.height ≤ l.room + 1;
  so_far : (total : Reading) → PostLeads (exp_at l.room l.tokens) l.tokens l.room (exp_view l.left.exp) l.left.after total → PostLeads (exp_at l.room l.tokens) l.tokens l.room (exp_view l.initial.left.exp) l.initial.left.after total;
}

abbrev pub decreases-read_suffixes-items : goal.decreases-read_suffixes-items
decreases-read_suffixes-items l = length l.tokens - l.left.after

abbrev pub invariant-arguments-list : goal.invariant-arguments-list
invariant-arguments-list l = record {
  within : l.listed.after ≤ length l.tokens;
  onward : l.at < l.listed.after;
  height_is : l.listed.height ≡ heights (exps_view l.listed.exps.items);
  low : l.listed.height ≤ l.room;
  so_far : (total : Option (List Expression × ℕ)) → ListLeads (exp_at l.room l.tokens 5) l.tokens (map exp_view l.listed.exps.items) l.listed.after total → listed_at (exp_at l.room l.tokens 5) l.tokens l.at ≡ closed_list l.tokens total;
}

abbrev pub decreases-arguments-list : goal.decreases-arguments-list
decreases-arguments-list l = length l.tokens - l.listed.after
