-- The table of a class: all members of one kind, each name once, ascending by name.
use Rattle.std.specs.Prelude.{◌↔◌, List, map, Contains}
use Rattle.std.specs.List.Sorted.{IsStrictlySortedBy}
use Rattle.std.specs.Ordering.{nat_cmp}
use Rattle.std.specs.Cmp.Lexicographic.{slice_cmp}
use Rattle.mj_tree.specs.Trees.{Name, Method}
use Rattle.mj_tree.specs.declared.tree.Field.{Field}
use Rattle.mj_members.specs.Declarations.{ClassDecl}
use Rattle.mj_members.specs.Tables.{fields_along, methods_along}
use Rattle.mj_classes.specs.Chains.{ancestry}

-- by their bytes
abbrev pub AreAscending : List Name → Type 0
AreAscending ns = IsStrictlySortedBy (slice_cmp nat_cmp) ns

-- The rows, owners and what they declare, are these members, each name once, ascending by name.
pub record IsTable {A : Type 0} (name : A → Name) (IsMember : Name → A → Type 0)
    (rows : List (Name × A)) : Type 0 where
  pub ascending : AreAscending (map (λ r. name r.1) rows)
  pub members : (owner : Name) (a : A) → Contains rows (owner, a) ↔ IsMember owner a

-- ---- the tables as functions

abbrev pub field_table : List ClassDecl → Name → List (Name × Field)
field_table cs c = fields_along (ancestry cs c)

abbrev pub method_table : List ClassDecl → Name → List (Name × Method)
method_table cs c = methods_along (ancestry cs c)
