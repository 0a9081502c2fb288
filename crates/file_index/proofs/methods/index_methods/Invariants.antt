use Rattle.std.proofs.Common.{◌≡◌, ℕ, List, find, take}
use Rattle.std.specs.BTreeMap.{get}
use Rattle.std.specs.Ordering.{nat_cmp}
use Rattle.std.specs.Cmp.Lexicographic.{slice_cmp}
use Rattle.file_index.specs.Standing.{is_named}
use Rattle.file_index.proofs.methods.index_methods.Given as goal

abbrev pub invariant-loop-at : goal.invariant-loop-at
invariant-loop-at l = (q : List ℕ) → get (slice_cmp nat_cmp) l.places q ≡ find (is_named l.tokens q) (take l.at-index l.publics)
