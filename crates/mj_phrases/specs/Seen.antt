-- What contracts see of collections.
use Rattle.std.specs.BTreeMap.{BTreeMap, get}
use Rattle.std.specs.Cmp.Lexicographic.{slice_cmp}
use Rattle.std.specs.Global.{Vec}
use Rattle.std.specs.Ordering.{nat_cmp}
use Rattle.std.specs.Prelude.{◌≡◌, List, Option, Some, None}
use Rattle.mj_tree.specs.Trees.{Name}
use Rattle.mj_tree.specs.declared.tree.Ty.{Ty}
use Rattle.mj_tree.specs.declared.tree.Variable.{Variable}
use Rattle.mj_phrases.specs.Table.{local_of}

-- the items of a list that may be missing
abbrev pub items_in : {A : Type 0} → Option (Vec A) → Option (List A)
items_in None = None
items_in (Some v) = Some v.items

-- the map has the type of the first variable of each name
abbrev pub Covers : BTreeMap Name Ty → List Variable → Type 0
Covers types variables = (x : Name) → get (slice_cmp nat_cmp) types x ≡ local_of variables x
