-- The tables of classes as functions.
use Rattle.std.specs.Prelude.{List, map, find, Option, option_map}
use Rattle.std.specs.Str.{bytes_eq}
use Rattle.mj_tree.specs.Trees.{Name, Method}
use Rattle.mj_tree.specs.declared.tree.Field.{Field}
use Rattle.mj_answer.specs.declared.table.FieldRow.{FieldRow}
use Rattle.mj_answer.specs.AnswerValues.{MethodRowValue, ClassTableValue}
use Rattle.mj_members.specs.Declarations.{ClassDecl}
use Rattle.mj_classes.specs.Chains.{ancestry}
use Rattle.mj_members.specs.Tables.{fields_along, methods_along}
use Rattle.mj_phrases.specs.Inquiries.{Sig}

-- the row of a field with its owner, and that of a method
abbrev pub field_row : Name × Field → FieldRow
field_row found = record { name = found.1.name; owner = found.0; ty = found.1.ty }

abbrev pub method_row : Name × Method → MethodRowValue
method_row found = record {
  name = found.1.name;
  owner = found.0;
  formals = map (λ v. v.ty) found.1.formals;
  returns = found.1.returns;
}

-- the table of a class that has these classes for its chain
abbrev pub table_along : List ClassDecl → ClassTableValue
table_along ks = record {
  fields = map field_row (fields_along ks);
  methods = map method_row (methods_along ks);
}

abbrev pub table_of : List ClassDecl → Name → ClassTableValue
table_of cs c = table_along (ancestry cs c)

abbrev pub row_sig : MethodRowValue → Sig
row_sig row = record { formals = row.formals; returns = row.returns }

-- the types of the method of a name in these rows
abbrev pub sig_in : List MethodRowValue → Name → Option Sig
sig_in rows x = option_map row_sig (find (λ row. bytes_eq row.name x) rows)
