-- What results say about the members of a class.
use Rattle.std.specs.Prelude.{List, [], Option, Some, None, find, option_map}
use Rattle.std.specs.Str.{bytes_eq}
use Rattle.mj_tree.specs.Trees.{Name}
use Rattle.mj_tree.specs.declared.tree.Ty.{Ty}
use Rattle.mj_answer.specs.declared.table.FieldRow.{FieldRow}
use Rattle.mj_answer.specs.AnswerValues.{MethodRowValue, ClassTableValue}
use Rattle.mj_phrases.specs.Inquiries.{Sig}
use Rattle.result_bytes.specs.Parts.{members_in}
use Rattle.result_bytes.specs.declared.value.Value.{Value}

-- no class has no rows
abbrev pub table_for : Option ClassTableValue → ClassTableValue
table_for None = record { fields = []; methods = [] }
table_for (Some table) = table

-- the fields and methods in an answer
abbrev pub table_in : Value → ClassTableValue
table_in v = table_for (members_in v)

abbrev pub fields_in : Value → List FieldRow
fields_in v = (table_in v).fields

abbrev pub methods_in : Value → List MethodRowValue
methods_in v = (table_in v).methods

-- the type of the field of a name
abbrev pub field_in : Value → Name → Option Ty
field_in v x = option_map (λ row. row.ty) (find (λ row. bytes_eq row.name x) (fields_in v))

abbrev pub row_types : MethodRowValue → Sig
row_types row = record { formals = row.formals; returns = row.returns }

-- the types of the method of a name
abbrev pub method_in : Value → Name → Option Sig
method_in v m = option_map row_types (find (λ row. bytes_eq row.name m) (methods_in v))
