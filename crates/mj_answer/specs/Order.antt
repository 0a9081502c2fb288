-- The order of places and of diagnostics, and answers in ascending order.
use Rattle.std.specs.Prelude.{◌≡◌, ℕ, ◌<◌, ◌⊎◌, List, []}
use Rattle.std.specs.List.{AllByRecursion}
use Rattle.ordered_names.specs.Order.{NameBefore, IsAscendingBy, IsAscendingByName}
use Rattle.mj_tree.specs.declared.place.Place.{Place}
use Rattle.mj_tree.specs.declared.place.Place.TheVariants.{Project, File, ClassOf, Class, Field, Method, Inside}
use Rattle.mj_answer.specs.declared.diagnostic.Diagnostic.{Diagnostic}
use Rattle.mj_answer.specs.Codes.{code_number}
use Rattle.mj_answer.specs.AnswerValues.{ClassTableValue, ClassAnswerValue, AnswerValue}

-- the kinds of places, in their order
abbrev pub place_order : Place → ℕ
place_order Project = 0
place_order (File name) = 1
place_order (ClassOf name number) = 2
place_order Class = 3
place_order (Field number) = 4
place_order (Method number) = 5
place_order (Inside method token) = 6

-- the name in a place, or none
abbrev pub name_in : Place → List ℕ
name_in (File name) = name
name_in (ClassOf name number) = name
name_in (Inside method token) = method
name_in p = []

-- the number in a place, or 0
abbrev pub number_in : Place → ℕ
number_in (ClassOf name number) = number
number_in (Field number) = number
number_in (Method number) = number
number_in (Inside method token) = token
number_in p = 0

-- by name, then by number
abbrev pub ContentsBefore : Place → Place → Type 0
ContentsBefore p q =
    NameBefore (name_in p) (name_in q) ⊎ ((name_in p ≡ name_in q) × (number_in p < number_in q))

-- by kind, then by contents
abbrev pub PlaceBefore : Place → Place → Type 0
PlaceBefore p q =
    (place_order p < place_order q) ⊎ ((place_order p ≡ place_order q) × ContentsBefore p q)

-- by place, then by code
abbrev pub Before : Diagnostic → Diagnostic → Type 0
Before d e =
    PlaceBefore d.place e.place ⊎ ((d.place ≡ e.place) × (code_number d.code < code_number e.code))

abbrev pub IsAscending : List Diagnostic → Type 0
IsAscending faults = IsAscendingBy Before faults

abbrev pub IsTableInOrder : ClassTableValue → Type 0
IsTableInOrder table =
    IsAscendingByName (λ row. row.name) table.fields
    × IsAscendingByName (λ row. row.name) table.methods

abbrev pub IsClassInOrder : ClassAnswerValue → Type 0
IsClassInOrder class = IsTableInOrder class.table × IsAscending class.faults

pub record IsAnswerInOrder (answer : AnswerValue) : Type 0 where
  pub faults : IsAscending answer.faults
  pub classes : IsAscendingByName (λ class. class.name) answer.classes
  pub each : AllByRecursion IsClassInOrder answer.classes
