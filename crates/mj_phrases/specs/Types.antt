-- Tests of types.
use Rattle.std.specs.Cmp.Lexicographic.{pointwise}
use Rattle.std.specs.Prelude.{Bool, true, false, nat_eq, Option, Some, None}
use Rattle.mj_tree.specs.Trees.{Name}
use Rattle.mj_tree.specs.declared.tree.Ty.{Ty}
use Rattle.mj_tree.specs.declared.tree.Ty.TheVariants.{Int, Boolean, IntArray, Class}

abbrev pub is_same : Name → Name → Bool
is_same x y = pointwise nat_eq x y

abbrev pub is_int : Ty → Bool
is_int Int = true
is_int _ = false

abbrev pub is_boolean : Ty → Bool
is_boolean Boolean = true
is_boolean _ = false

abbrev pub is_int_array : Ty → Bool
is_int_array IntArray = true
is_int_array _ = false

abbrev pub class_in : Ty → Option Name
class_in (Class c) = Some c
class_in _ = None
