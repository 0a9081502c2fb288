-- Tables of classes by the places of these.
use Rattle.std.specs.Prelude.{◌≡◌, ℕ, ◌<◌, List, length, map, get_or, Option, Some, None}
use Rattle.mj_tree.specs.Trees.{Name}
use Rattle.mj_members.specs.Declarations.{ClassDecl}
use Rattle.mj_members.specs.Classes.{field_member_view, method_member_view}
use Rattle.mj_classes.specs.Declarations.{place}
use Rattle.mj_classes.specs.Tables.{field_table, method_table}
use Rattle.mj_classes.specs.Walks.{IsFirstPlace}
use Rattle.mj_tables.specs.declared.making.MemberTable.{MemberTable}

-- the table has the fields and the methods of a class
pub record IsTableOf (cs : List ClassDecl) (c : Name) (table : MemberTable) : Type 0 where
  pub fields : map field_member_view table.fields.items ≡ field_table cs c
  pub methods : map method_member_view table.methods.items ≡ method_table cs c

-- those of the class at this place, if it is the first one of its name
abbrev pub IsTableAt : List ClassDecl → ℕ → MemberTable → Type 0
IsTableAt cs at table = (c : Name) → place cs c ≡ Some at → IsTableOf cs c table

-- there is a place for each class, and the tables that are there are those of the classes
pub record AreTables (cs : List ClassDecl) (tables : List (Option MemberTable)) : Type 0 where
  pub all : length tables ≡ length cs
  pub each : (at : ℕ) (table : MemberTable) → get_or tables at None ≡ Some table
      → IsTableAt cs at table

abbrev pub HasTableAt : List (Option MemberTable) → ℕ → Type 0
HasTableAt tables at = (table : MemberTable) × (get_or tables at None ≡ Some table)

-- each class that is the first one of its name has a table
abbrev pub HaveTables : List ClassDecl → List (Option MemberTable) → Type 0
HaveTables cs tables = (c : Name) (at : ℕ) → place cs c ≡ Some at → HasTableAt tables at

-- what has a table still has one
abbrev pub Grow : List (Option MemberTable) → List (Option MemberTable) → Type 0
Grow tables after = (at : ℕ) → HasTableAt tables at → HasTableAt after at

-- at each of these places is the first class of its name
abbrev pub AreFirstPlaces : List ClassDecl → List ℕ → Type 0
AreFirstPlaces cs places = (i : ℕ) → i < length places → IsFirstPlace cs (get_or places i 0)
