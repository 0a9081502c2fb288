-- The classes that a project declares.
use Rattle.std.specs.Prelude.{ℕ, suc, List, [], ◌∷◌, ◌++◌, map, find, position, Option, Some, None, option_and_then}
use Rattle.std.specs.Str.{bytes_eq}
use Rattle.mj_tree.specs.Trees.{Name, Main, Class, File}
use Rattle.mj_members.specs.Declarations.{ClassDecl, main_decl, class_decl}

abbrev pub number_classes : ℕ → ℕ → List Class → List ClassDecl
number_classes file number [] = []
number_classes file number (c ∷ cs) = class_decl file number c ∷ number_classes file (suc number) cs

abbrev pub main_first : ℕ → Option Main → List Class → List ClassDecl
main_first file None cs = number_classes file 0 cs
main_first file (Some m) cs = main_decl file m ∷ number_classes file 1 cs

-- the classes of a file, the main class first
abbrev pub classes_of : ℕ → File → List ClassDecl
classes_of file f = main_first file f.main f.classes

abbrev pub declared_from : ℕ → List (Option File) → List ClassDecl
declared_from file [] = []
declared_from file (None ∷ others) = declared_from (suc file) others
declared_from file (Some f ∷ others) = classes_of file f ++ declared_from (suc file) others

-- All classes that a project declares, in file order. A file that is no sentence declares none.
abbrev pub declarations : List (Option File) → List ClassDecl
declarations files = declared_from 0 files

-- The first class of a name.
unfoldable pub decl : List ClassDecl → Name → Option ClassDecl
decl cs c = find (λ k. bytes_eq k.name c) cs

-- ---- by their places in the list

-- the place of the first class of a name
abbrev pub place : List ClassDecl → Name → Option ℕ
place cs c = position (λ k. bytes_eq k.name c) cs

-- for each class the place of the one that it extends, if that is declared
abbrev pub superclass_places : List ClassDecl → List (Option ℕ)
superclass_places cs = map (λ k. option_and_then (place cs) k.superclass) cs
