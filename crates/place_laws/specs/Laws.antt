-- The token of a place is one of the part that the place names.
use Rattle.std.specs.Prelude.{◌≡◌, ℕ, suc, ◌+◌, ◌≤◌, List, length, Option, Some, None, if◌then◌else◌, slice_get, codes}
use Rattle.std.specs.Str.{bytes_eq}
use Rattle.mj_lexer.specs.declared.token.Token.{Token}
use Rattle.mj_tree.specs.declared.tree.Field.{Field}
use Rattle.mj_tree.specs.declared.place.Place.TheVariants as place
use Rattle.mj_tree.specs.Trees.{Name, Method, Main, Class, File}
use Rattle.mj_expressions.specs.Steps.{◌>>=◌}
use Rattle.mj_expressions.specs.Tokens.{name_at}
use Rattle.mj_parser.specs.Statements.{stmt_size}
use Rattle.mj_parser.specs.Declarations.{method_size, IsClass, Derives}
use Rattle.mj_parser.specs.MarkBounds.{StmtMarksBelow, MethodMarksBelow}
use Rattle.mj_parser.specs.Locations.{existing, token_of}
use Rattle.place_laws.specs.Parts.{Part, class_parts, field_parts, method_parts, class_name_place, field_name_place, method_name_place, method_named, class_number}

-- what was found is this place, and the name stands there
abbrev pub IsNameFound : List Token → Option ℕ → ℕ → Name → Type 0
IsNameFound ts found at name = (found ≡ Some at) × (name_at ts at ≡ Some name)

-- All tokens of the method stand in the file, and each mark in it is the number of one of them.
pub record MethodTokens (ts : List Token) (m : Part Method) : Type 0 where
  pub within : m.at + method_size m.item ≤ length ts
  pub marks : MethodMarksBelow (method_size m.item) m.item

-- The class with this number was derived where it stands. Its token, and those of its fields and
-- methods, are their names; a token in a method is counted from the `public` of the first method of
-- that name.
pub record ClassTokens (ts : List Token) (number : ℕ) (c : Part Class) : Type 0 where
  pub derived : IsClass ts c.at c.item
  pub class : IsNameFound ts (token_of ts number place.Class) (class_name_place c) c.item.name
  pub fields : (n : ℕ) (f : Part Field) → slice_get (field_parts c) n ≡ Some f
      → IsNameFound ts (token_of ts number (place.Field n)) (field_name_place f) f.item.name
  pub methods : (n : ℕ) (m : Part Method) → slice_get (method_parts c) n ≡ Some m
      → IsNameFound ts (token_of ts number (place.Method n)) (method_name_place m) m.item.name
  pub method_tokens : (n : ℕ) (m : Part Method) → slice_get (method_parts c) n ≡ Some m
      → MethodTokens ts m
  pub no_other_method : (n : ℕ) → slice_get (method_parts c) n ≡ None
      → token_of ts number (place.Method n) ≡ None
  pub inside : (name : Name) (n : ℕ)
      → token_of ts number (place.Inside name n)
      ≡ (method_named name (method_parts c) >>= λ m. existing ts (m.at + n))

-- The main class has number 0 and its name at place 1. Its only method, `main`, begins at place 3
-- by `public static void main`; each mark in its statement is the number of one of the tokens from
-- there on.
pub record MainTokens (ts : List Token) (m : Main) : Type 0 where
  pub class : IsNameFound ts (token_of ts 0 place.Class) 1 m.name
  pub method : IsNameFound ts (token_of ts 0 (place.Method 0)) (3 + 3) (codes "main")
  pub no_other_method : (n : ℕ) → token_of ts 0 (place.Method (suc n)) ≡ None
  pub inside : (name : Name) (n : ℕ)
      → token_of ts 0 (place.Inside name n)
      ≡ (if bytes_eq (codes "main") name then existing ts (3 + n) else None)
  pub within : 3 + (11 + stmt_size m.statement) ≤ length ts
  pub marks : StmtMarksBelow (11 + stmt_size m.statement) m.statement

-- each class of a file, the main class first, and no other
pub record FileTokens (ts : List Token) (f : File) : Type 0 where
  pub main : (m : Main) → f.main ≡ Some m → MainTokens ts m
  pub classes : (n : ℕ) (c : Part Class) → slice_get (class_parts f) n ≡ Some c
      → ClassTokens ts (class_number f.main n) c
  pub no_other_class : (n : ℕ) → slice_get (class_parts f) n ≡ None
      → token_of ts (class_number f.main n) place.Class ≡ None
  pub numbered : (class number : ℕ) (name : Name)
      → token_of ts class (place.ClassOf name number) ≡ token_of ts number place.Class

abbrev pub PlacesLaw : Type 0
PlacesLaw = (ts : List Token) (f : File) → Derives ts f → FileTokens ts f
