-- The printed text of an answer. Each line ends in LF.
use Rattle.std.specs.Prelude.{ℕ, List, [], ◌∷◌, ◌++◌, codes, decimal, flat_map}
use Rattle.mj_tree.specs.declared.tree.Ty.{Ty}
use Rattle.mj_tree.specs.declared.tree.Ty.TheVariants.{Int, Boolean, IntArray, Class}
use Rattle.mj_tree.specs.declared.place.Place.{Place}
use Rattle.mj_tree.specs.declared.place.Place.TheVariants as places
use Rattle.mj_answer.specs.declared.code.Code.{Code}
use Rattle.mj_answer.specs.declared.diagnostic.Diagnostic.{Diagnostic}
use Rattle.mj_answer.specs.declared.table.FieldRow.{FieldRow}
use Rattle.mj_answer.specs.Codes.{code_number}
use Rattle.mj_answer.specs.AnswerValues.{MethodRowValue, ClassAnswerValue, AnswerValue}

-- E304
abbrev pub code_text : Code → List ℕ
code_text code = codes "E" ++ decimal (code_number code)

-- where a diagnostic stands: the same words wherever it is printed
abbrev pub place_text : Place → List ℕ
place_text places.Project = codes "project"
place_text (places.File name) = codes "file " ++ name
place_text (places.ClassOf name number) = codes "file " ++ name ++ codes " class " ++ decimal number
place_text places.Class = codes "class"
place_text (places.Field number) = codes "field " ++ decimal number
place_text (places.Method number) = codes "method " ++ decimal number
place_text (places.Inside method token) = codes "in " ++ method ++ codes " at " ++ decimal token

-- E304 in m at 19
abbrev pub fault_line : Diagnostic → List ℕ
fault_line fault = code_text fault.code ++ codes " " ++ place_text fault.place ++ codes "\n"

-- the diagnostics of a class are indented
abbrev pub indented_fault_line : Diagnostic → List ℕ
indented_fault_line fault = codes "  " ++ fault_line fault

abbrev pub type_text : Ty → List ℕ
type_text Int = codes "int"
type_text Boolean = codes "boolean"
type_text IntArray = codes "int[]"
type_text (Class name) = name

-- int, boolean
abbrev pub types_text : List Ty → List ℕ
types_text [] = []
types_text (ty ∷ others) = type_text ty ++ flat_map (λ other. codes ", " ++ type_text other) others

--   field x: int from A
abbrev pub field_line : FieldRow → List ℕ
field_line row =
    codes "  field " ++ row.name ++ codes ": " ++ type_text row.ty ++ codes " from " ++ row.owner
    ++ codes "\n"

--   method m(int, boolean): int from A
abbrev pub method_line : MethodRowValue → List ℕ
method_line row =
    codes "  method " ++ row.name ++ codes "(" ++ types_text row.formals ++ codes "): "
    ++ type_text row.returns
    ++ codes " from " ++ row.owner ++ codes "\n"

-- a class: its name, its fields, its methods, its diagnostics
abbrev pub class_text : ClassAnswerValue → List ℕ
class_text class =
    codes "class " ++ class.name ++ codes "\n"
    ++ flat_map field_line class.table.fields
    ++ flat_map method_line class.table.methods
    ++ flat_map indented_fault_line class.faults

-- an answer: the diagnostics of the project itself, then its classes
abbrev pub text_of : AnswerValue → List ℕ
text_of answer = flat_map fault_line answer.faults ++ flat_map class_text answer.classes
