-- Where the classes, fields and methods of a file stand, by the sizes of the grammar.
use Rattle.std.specs.Prelude.{ℕ, suc, ◌+◌, List, [], ◌∷◌, Option, Some, None, find}
use Rattle.std.specs.Str.{bytes_eq}
use Rattle.mj_tree.specs.declared.tree.Field.{Field}
use Rattle.mj_tree.specs.Trees.{Name, Method, Main, Class, File}
use Rattle.mj_parser.specs.Rows.{row_size}
use Rattle.mj_parser.specs.Declarations.{type_size, field_size, head_size, method_size, class_size, main_part_size}

-- a part of a file, and the place where it begins
pub record Part (A : Type 0) : Type 0 where
  pub at : ℕ
  pub item : A

-- parts that follow each other, the first at place i
abbrev pub row_parts : {A : Type 0} → (A → ℕ) → ℕ → List A → List (Part A)
row_parts size i [] = []
row_parts size i (x ∷ xs) = record { at = i; item = x } ∷ row_parts size (i + size x) xs

-- the classes behind the main class
abbrev pub class_parts : File → List (Part Class)
class_parts f = row_parts class_size (main_part_size f.main) f.classes

abbrev pub field_parts : Part Class → List (Part Field)
field_parts c = row_parts field_size (c.at + head_size c.item) c.item.fields

abbrev pub method_parts : Part Class → List (Part Method)
method_parts c =
    row_parts method_size (c.at + head_size c.item + row_size field_size c.item.fields)
    c.item.methods

-- where the names stand
abbrev pub class_name_place : Part Class → ℕ
class_name_place c = c.at + 1

abbrev pub field_name_place : Part Field → ℕ
field_name_place f = f.at + type_size f.item.ty

abbrev pub method_name_place : Part Method → ℕ
method_name_place m = m.at + (1 + type_size m.item.returns)

-- the first method of a name
abbrev pub method_named : Name → List (Part Method) → Option (Part Method)
method_named name methods = find (λ m. bytes_eq m.item.name name) methods

-- the number of a class in its file, by its number behind the main class
abbrev pub class_number : Option Main → ℕ → ℕ
class_number None n = n
class_number (Some main) n = suc n
