-- The canonical bytes of tables, diagnostics and answers. Numbers are big endian.
use Rattle.std.specs.Prelude.{ℕ, List, [], ◌∷◌, ◌++◌}
use Rattle.mj_tree.specs.declared.place.Place.{Place}
use Rattle.mj_tree.specs.declared.place.Place.TheVariants.{Project, File, ClassOf, Class, Field, Method, Inside}
use Rattle.mj_answer.specs.declared.diagnostic.Diagnostic.{Diagnostic}
use Rattle.mj_answer.specs.declared.table.FieldRow.{FieldRow}
use Rattle.mj_answer.specs.Codes.{code_number}
use Rattle.mj_answer.specs.AnswerValues.{MethodRowValue, ClassTableValue, ClassAnswerValue, AnswerValue}
use Rattle.byte_readers.specs.Spelling.{two, four, name, list}
use Rattle.tree_spelling.specs.Spelling.{ty}

-- a field: its name, its owner, its type
abbrev pub field_row : FieldRow → List ℕ
field_row row = name row.name ++ (name row.owner ++ ty row.ty)

-- a method: its name, its owner, the types of its formals, its return type
abbrev pub method_row : MethodRowValue → List ℕ
method_row row = name row.name ++ (name row.owner ++ (list ty row.formals ++ ty row.returns))

-- the fields and the methods of a class
abbrev pub table : ClassTableValue → List ℕ
table t = list field_row t.fields ++ list method_row t.methods

-- the place of a diagnostic of the project; other places have no spelling here
abbrev pub project_place : Place → List ℕ
project_place Project = 0x00 ∷ []
project_place (File file) = 0x01 ∷ name file
project_place (ClassOf file number) = 0x02 ∷ (name file ++ four number)
project_place _ = []

-- the place of a diagnostic of a class; other places have no spelling here
abbrev pub class_place : Place → List ℕ
class_place Class = 0x00 ∷ []
class_place (Field number) = 0x01 ∷ four number
class_place (Method number) = 0x02 ∷ four number
class_place (Inside method token) = 0x03 ∷ (name method ++ four token)
class_place _ = []

-- a diagnostic: its place, and its code in two bytes
abbrev pub project_fault : Diagnostic → List ℕ
project_fault fault = project_place fault.place ++ two (code_number fault.code)

abbrev pub class_fault : Diagnostic → List ℕ
class_fault fault = class_place fault.place ++ two (code_number fault.code)

-- what is answered for a class: its name, its table, its diagnostics
abbrev pub class_answer : ClassAnswerValue → List ℕ
class_answer c = name c.name ++ (table c.table ++ list class_fault c.faults)

-- the whole answer: the diagnostics of the project, and the classes
abbrev pub answer : AnswerValue → List ℕ
answer a = list project_fault a.faults ++ list class_answer a.classes
