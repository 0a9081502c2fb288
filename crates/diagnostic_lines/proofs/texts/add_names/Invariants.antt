use Rattle.std.proofs.Common.{◌≡◌, ℕ, List, take}
use Rattle.std.specs.BTreeMap.{get}
use Rattle.std.specs.Ordering.{nat_cmp}
use Rattle.std.specs.Cmp.Lexicographic.{slice_cmp}
use Rattle.diagnostic_lines.proofs.Names.{place_of}
use Rattle.diagnostic_lines.proofs.texts.add_names.Given as goal

abbrev pub invariant-loop-number : goal.invariant-loop-number
invariant-loop-number l = (q : List ℕ) → get (slice_cmp nat_cmp) l.numbers q ≡ place_of (take l.number l.texts) q
