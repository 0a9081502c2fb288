-- Reading tables, diagnostics and answers from left to right.
use Rattle.std.specs.Prelude.{ℕ, zero, suc, Bool, List, [], ◌∷◌, Ok, Err, Option, Some, None}
use Rattle.std.specs.Ordering.{nat_cmp, is_lt}
use Rattle.std.specs.Cmp.Lexicographic.{slice_cmp}
use Rattle.mj_tree.specs.declared.tree.Ty.{Ty}
use Rattle.mj_tree.specs.declared.place.Place.{Place}
use Rattle.mj_tree.specs.declared.place.Place.TheVariants as places
use Rattle.mj_answer.specs.declared.code.Code.{Code}
use Rattle.mj_answer.specs.declared.diagnostic.Diagnostic.{Diagnostic}
use Rattle.mj_answer.specs.declared.table.FieldRow.{FieldRow}
use Rattle.mj_answer.specs.contracts.diagnostic.DiagnosticOrd.TheImpl.{cmp-value}
use Rattle.mj_answer.specs.Codes.{code_of}
use Rattle.mj_answer.specs.AnswerValues.{MethodRowValue, ClassTableValue, ClassAnswerValue, AnswerValue}
use Rattle.byte_readers.specs.declared.breach.Breach.TheVariants.{Short}
use Rattle.byte_readers.specs.Reading.{◌>>=◌, Decoder, not_canonical, any, two_at, four_at, name_at, pair_at, made_at, list_at}
use Rattle.byte_readers.specs.Orders.{is_after}
use Rattle.tree_spelling.specs.Reading.{ty_at}

-- by name
abbrev pub by_name : {A : Type 0} → (A → List ℕ) → A → A → Bool
by_name name_of a b = is_lt (slice_cmp nat_cmp (name_of a) (name_of b))

abbrev pub field_row_of : List ℕ × (List ℕ × Ty) → FieldRow
field_row_of x = record { name = x.0; owner = x.1.0; ty = x.1.1 }

abbrev pub field_row_at : Decoder FieldRow
field_row_at bytes = made_at field_row_of (pair_at name_at (pair_at name_at ty_at)) bytes

abbrev pub method_row_of : List ℕ × (List ℕ × (List Ty × Ty)) → MethodRowValue
method_row_of x = record { name = x.0; owner = x.1.0; formals = x.1.1.0; returns = x.1.1.1 }

abbrev pub method_row_at : Decoder MethodRowValue
method_row_at bytes =
    made_at method_row_of (pair_at name_at
    (pair_at name_at (pair_at (list_at ty_at any) ty_at))) bytes

abbrev pub table_of : List FieldRow × List MethodRowValue → ClassTableValue
table_of x = record { fields = x.0; methods = x.1 }

unfoldable pub table_at : Decoder ClassTableValue
table_at bytes =
    made_at table_of (pair_at (list_at field_row_at (is_after (by_name (λ row. row.name))))
    (list_at method_row_at (is_after (by_name (λ row. row.name))))) bytes

abbrev pub class_of : List ℕ × ℕ → Place
class_of x = places.ClassOf x.0 x.1

unfoldable pub project_place_at : Decoder Place
project_place_at [] = Err Short
project_place_at (zero ∷ rest) = Ok (places.Project, rest)
project_place_at (suc zero ∷ rest) = made_at places.File name_at rest
project_place_at (suc (suc zero) ∷ rest) = made_at class_of (pair_at name_at four_at) rest
project_place_at (suc (suc (suc b)) ∷ rest) = not_canonical (suc (suc (suc b)) ∷ rest)

abbrev pub inside_of : List ℕ × ℕ → Place
inside_of x = places.Inside x.0 x.1

unfoldable pub class_place_at : Decoder Place
class_place_at [] = Err Short
class_place_at (zero ∷ rest) = Ok (places.Class, rest)
class_place_at (suc zero ∷ rest) = made_at places.Field four_at rest
class_place_at (suc (suc zero) ∷ rest) = made_at places.Method four_at rest
class_place_at (suc (suc (suc zero)) ∷ rest) = made_at inside_of (pair_at name_at four_at) rest
class_place_at (suc (suc (suc (suc b))) ∷ rest) = not_canonical (suc (suc (suc (suc b))) ∷ rest)

-- a number that is no code's is refused
abbrev pub known_code : List ℕ → Option Code → Decoder Code
known_code bytes None rest = not_canonical bytes
known_code bytes (Some code) rest = Ok (code, rest)

unfoldable pub code_at : Decoder Code
code_at bytes = two_at bytes >>= λ n. known_code bytes (code_of n.0) n.1

abbrev pub diagnostic_of : Place × Code → Diagnostic
diagnostic_of x = record { place = x.0; code = x.1 }

abbrev pub project_fault_at : Decoder Diagnostic
project_fault_at bytes = made_at diagnostic_of (pair_at project_place_at code_at) bytes

abbrev pub class_fault_at : Decoder Diagnostic
class_fault_at bytes = made_at diagnostic_of (pair_at class_place_at code_at) bytes

-- by place, then by code
abbrev pub by_place : Diagnostic → Diagnostic → Bool
by_place a b = is_lt (cmp-value.it a b)

unfoldable pub project_faults_at : Decoder (List Diagnostic)
project_faults_at bytes = list_at project_fault_at (is_after by_place) bytes

unfoldable pub class_faults_at : Decoder (List Diagnostic)
class_faults_at bytes = list_at class_fault_at (is_after by_place) bytes

abbrev pub class_answer_of : List ℕ × (ClassTableValue × List Diagnostic) → ClassAnswerValue
class_answer_of x = record { name = x.0; table = x.1.0; faults = x.1.1 }

abbrev pub class_answer_at : Decoder ClassAnswerValue
class_answer_at bytes =
    made_at class_answer_of (pair_at name_at (pair_at table_at class_faults_at)) bytes

abbrev pub answer_of : List Diagnostic × List ClassAnswerValue → AnswerValue
answer_of x = record { faults = x.0; classes = x.1 }

unfoldable pub answer_at : Decoder AnswerValue
answer_at bytes =
    made_at answer_of (pair_at project_faults_at
    (list_at class_answer_at (is_after (by_name (λ class. class.name))))) bytes
