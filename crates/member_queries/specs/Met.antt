-- Sets of the names in a list.
use Rattle.std.specs.Prelude.{◌≡◌, ℕ, List}
use Rattle.std.specs.BTreeSet.{BTreeSet, contains}
use Rattle.std.specs.Ordering.{nat_cmp}
use Rattle.std.specs.Cmp.Lexicographic.{slice_cmp}
use Rattle.mj_classes.specs.Chains.{is_in}

-- a set has these names and no other
abbrev pub HasMet : BTreeSet (List ℕ) → List (List ℕ) → Type 0
HasMet met names = (n : List ℕ) → contains (slice_cmp nat_cmp) met n ≡ is_in names n
