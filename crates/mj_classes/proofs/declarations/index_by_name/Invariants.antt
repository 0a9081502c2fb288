use Rattle.std.proofs.Common.{◌≡◌, ℕ, List, take}
use Rattle.std.specs.BTreeMap.{get}
use Rattle.std.specs.Ordering.{nat_cmp}
use Rattle.std.specs.Cmp.Lexicographic.{slice_cmp}
use Rattle.mj_classes.proofs.Index.{place_of}
use Rattle.mj_classes.proofs.declarations.index_by_name.Given as goal

abbrev pub invariant-loop-at : goal.invariant-loop-at
invariant-loop-at l = (q : List ℕ) → get (slice_cmp nat_cmp) l.by_name q ≡ place_of (take l.at l.classes) q
