use Rattle.std.proofs.Common.{◌≡◌, ℕ, List, take}
use Rattle.std.specs.BTreeMap.{get}
use Rattle.std.specs.Ordering.{nat_cmp}
use Rattle.std.specs.Cmp.Lexicographic.{slice_cmp}
use Rattle.mj_tree.proofs.NamePlaces.{named_at}
use Rattle.tree_bytes.proofs.index.index_methods.Given as goal

abbrev pub invariant-loop-at : goal.invariant-loop-at
invariant-loop-at l = (q : List ℕ) → get (slice_cmp nat_cmp) l.places q ≡ named_at (λ m. m) (λ m. m.name) (take l.at l.methods) q
