-- A table while it is built.
use Rattle.std.specs.Prelude.{◌≡◌, List, map}
use Rattle.std.specs.Ordering.{nat_cmp}
use Rattle.std.specs.Cmp.Lexicographic.{slice_cmp}
use Rattle.std.specs.FinMap as names
use denote.Ref.{Bor}
use Rattle.mj_tree.specs.Trees.{Name, Method}
use Rattle.mj_tree.specs.declared.tree.Field.{Field}
use Rattle.mj_members.specs.Classes.{field_member_view, method_member_view}
use Rattle.mj_members.specs.declared.member.FieldMember.{FieldMember}
use Rattle.mj_members.specs.declared.member.MethodMember.{MethodMember}

-- entries of a map by names
abbrev pub rows_by : {X A : Type 0} → (X → A) → List (Bor Name × X) → List (Name × A)
rows_by view es = map (λ e. (e.0.now, view e.1)) es

abbrev pub field_rows : List (Bor Name × FieldMember) → List (Name × (Name × Field))
field_rows es = rows_by field_member_view es

abbrev pub method_rows : List (Bor Name × MethodMember) → List (Name × (Name × Method))
method_rows es = rows_by method_member_view es

-- under each name the first list has what the second has
abbrev pub SayAlike : {A : Type 0} → List (Name × A) → List (Name × A) → Type 0
SayAlike rows entries =
    (n : Name) → names.find (slice_cmp nat_cmp) n rows ≡ names.find (slice_cmp nat_cmp) n entries
