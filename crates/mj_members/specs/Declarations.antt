-- A class as it is declared.
use Rattle.std.specs.Prelude.{ℕ, Bool, ◌&&◌, ◌==◌, not, length, List, [], Option, Some, None}
use Rattle.mj_tree.specs.Trees.{Name, Statement, Method, Main, Class}
use Rattle.mj_tree.specs.declared.tree.Field.{Field}

-- A class and where it is declared: the number of its file in the project, and its number in the
-- file. Both are counted from 0, and a main class comes first in its file. `main` is what a main
-- class has: its statement.
pub record ClassDecl : Type 0 where
  pub file : ℕ
  pub number : ℕ
  pub name : Name
  pub superclass : Option Name
  pub main : Option Statement
  pub fields : List Field
  pub methods : List Method

-- whether the class itself declares a field or a method
abbrev pub has_members : ClassDecl → Bool
has_members k = not ((length k.fields == 0) && (length k.methods == 0))

-- A main class extends nothing and has no members.
abbrev pub main_decl : ℕ → Main → ClassDecl
main_decl file m = record {
  file = file;
  number = 0;
  name = m.name;
  superclass = None;
  main = Some m.statement;
  fields = [];
  methods = [];
}

abbrev pub class_decl : ℕ → ℕ → Class → ClassDecl
class_decl file number c = record {
  file = file;
  number = number;
  name = c.name;
  superclass = c.superclass;
  main = None;
  fields = c.fields;
  methods = c.methods;
}
