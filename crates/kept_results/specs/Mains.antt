-- Main classes by their names.
use Rattle.std.specs.Prelude.{Bool, true, false, Option, Some, None}
use Rattle.std.specs.Str.{bytes_eq}
use Rattle.mj_tree.specs.Trees.{Main}

-- both are main classes of one name, or there is none
abbrev pub same_main : Option Main → Option Main → Bool
same_main None None = true
same_main None (Some n) = false
same_main (Some m) None = false
same_main (Some m) (Some n) = bytes_eq m.name n.name
