use Rattle.std.proofs.Common.{length, drop, ◌-◌, ◌+◌, ◌≡◌, ℕ, List}
use Rattle.std.specs.Option.{option_or}
use Rattle.std.specs.BTreeMap.{get}
use Rattle.std.specs.Cmp.Lexicographic.{slice_cmp}
use Rattle.std.specs.Ordering.{nat_cmp}
use Rattle.kept_results.specs.Rows.{change_at}
use Rattle.kept_results.proofs.rows.note_changes.Given as goal

-- what becomes of rows is what becomes of those that are left, and what was noted
abbrev pub invariant-loop-at : goal.invariant-loop-at
invariant-loop-at l = (c : List ℕ) → change_at l.old l.new c ≡ option_or (change_at (drop l.at.old l.old) (drop l.at.new l.new) c) (get (slice_cmp nat_cmp) l.changes c)

abbrev pub decreases-loop-at : goal.decreases-loop-at
decreases-loop-at l = (length l.old - l.at.old) + (length l.new - l.at.new)
