use Rattle.std.proofs.Common.{◌≡◌, ℕ, suc, Option, List, ◌-◌, ◌≤◌, length}
use Rattle.mj_tree.specs.declared.tree.Field.{Field}
use Rattle.mj_expressions.specs.Steps.{items_from}
use Rattle.mj_parser.specs.FileReading.{field_at, begins_type}
use Rattle.mj_expressions.proofs.Items.{ItemsLead}
use Rattle.mj_parser.proofs.files.fields.Given as goal

abbrev pub invariant-items : goal.invariant-items
invariant-items l = record {
  within : l.after ≤ length l.tokens;
  onward : l.at ≤ l.after;
  so_far : (total : Option (List Field × ℕ)) → ItemsLead (field_at l.tokens) (begins_type l.tokens) (length l.tokens) l.items.items l.after total → items_from (suc (length l.tokens)) (field_at l.tokens) (begins_type l.tokens) l.at ≡ total;
}

abbrev pub decreases-items : goal.decreases-items
decreases-items l = length l.tokens - l.after
