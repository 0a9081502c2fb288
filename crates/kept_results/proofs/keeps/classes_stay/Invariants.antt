use Rattle.std.proofs.Common.{◌≡◌, drop}
use Rattle.std.specs.BTreeMap.{get}
use Rattle.std.specs.Ordering.{nat_cmp}
use Rattle.std.specs.Cmp.Lexicographic.{slice_cmp}
use Rattle.kept_results.specs.Changes.{stay_listed}
use Rattle.kept_results.proofs.keeps.classes_stay.Given as goal

abbrev pub invariant-loop-class : goal.invariant-loop-class
invariant-loop-class l = stay_listed (get (slice_cmp nat_cmp) l.rows) (drop l.class-index l.classes) ≡ stay_listed (get (slice_cmp nat_cmp) l.rows) l.classes
