-- Which tables, diagnostics and answers have a spelling: names, numbers in four bytes, and lists in
-- their order.
use Rattle.std.specs.Prelude.{ℕ, ◌<◌, ◌^◌, List, length}
use Rattle.std.specs.List.{AllByRecursion}
use Rattle.mj_tree.specs.declared.place.Place.{Place}
use Rattle.mj_tree.specs.declared.place.Place.TheVariants.{Project, File, ClassOf, Class, Field, Method, Inside}
use Rattle.mj_answer.specs.declared.diagnostic.Diagnostic.{Diagnostic}
use Rattle.mj_answer.specs.declared.table.FieldRow.{FieldRow}
use Rattle.mj_answer.specs.AnswerValues.{MethodRowValue, ClassTableValue, ClassAnswerValue, AnswerValue}
use Rattle.ordered_names.specs.Order.{NameBefore, IsAscendingBy}
use Rattle.mj_answer.specs.Order.{Before, IsClassInOrder}
use Rattle.byte_readers.specs.Names.{IsName}
use Rattle.tree_spelling.specs.Storable.{TyFits}

-- a number of items that can be written
abbrev pub IsCount : ℕ → Type 0
IsCount n = n < 2 ^ 64

-- items that fit, in ascending order, and not too many of them
pub record OrderedFits {A : Type 0} (P : A → Type 0) (B : A → A → Type 0)
    (items : List A) : Type 0 where
  pub few : IsCount (length items)
  pub each : AllByRecursion P items
  pub order : IsAscendingBy B items

abbrev pub ByName : {A : Type 0} → (A → List ℕ) → A → A → Type 0
ByName name_of a b = NameBefore (name_of a) (name_of b)

abbrev pub FieldRowFits : FieldRow → Type 0
FieldRowFits row = IsName row.name × (IsName row.owner × TyFits row.ty)

pub record MethodRowFits (row : MethodRowValue) : Type 0 where
  pub name : IsName row.name
  pub owner : IsName row.owner
  pub few : IsCount (length row.formals)
  pub formals : AllByRecursion TyFits row.formals
  pub returns : TyFits row.returns

pub record TableFits (t : ClassTableValue) : Type 0 where
  pub fields : OrderedFits FieldRowFits (ByName (λ row. row.name)) t.fields
  pub methods : OrderedFits MethodRowFits (ByName (λ row. row.name)) t.methods

-- the places of diagnostics of the project, with numbers that can be written
abbrev pub IsProjectPlace : Place → Type 0
IsProjectPlace Project = Unit {0}
IsProjectPlace (File file) = Unit {0}
IsProjectPlace (ClassOf file number) = number < 2 ^ 32
IsProjectPlace _ = ⊥

-- the places of diagnostics of a class, with numbers that can be written
abbrev pub IsClassPlace : Place → Type 0
IsClassPlace Class = Unit {0}
IsClassPlace (Field number) = number < 2 ^ 32
IsClassPlace (Method number) = number < 2 ^ 32
IsClassPlace (Inside method token) = token < 2 ^ 32
IsClassPlace _ = ⊥

-- the name in a place is one
abbrev pub PlaceNameFits : Place → Type 0
PlaceNameFits (File file) = IsName file
PlaceNameFits (ClassOf file number) = IsName file
PlaceNameFits (Inside method token) = IsName method
PlaceNameFits _ = Unit {0}

abbrev pub ProjectFaultFits : Diagnostic → Type 0
ProjectFaultFits fault = IsProjectPlace fault.place × PlaceNameFits fault.place

abbrev pub ClassFaultFits : Diagnostic → Type 0
ClassFaultFits fault = IsClassPlace fault.place × PlaceNameFits fault.place

abbrev pub ProjectFaultsFit : List Diagnostic → Type 0
ProjectFaultsFit faults = OrderedFits ProjectFaultFits Before faults

abbrev pub ClassFaultsFit : List Diagnostic → Type 0
ClassFaultsFit faults = OrderedFits ClassFaultFits Before faults

pub record ClassAnswerFits (c : ClassAnswerValue) : Type 0 where
  pub name : IsName c.name
  pub table : TableFits c.table
  pub faults : ClassFaultsFit c.faults

pub record AnswerFits (a : AnswerValue) : Type 0 where
  pub faults : ProjectFaultsFit a.faults
  pub classes : OrderedFits ClassAnswerFits (ByName (λ class. class.name)) a.classes

-- what the types of an answer's parts don't keep: where the diagnostics stand, and the orders
abbrev pub AreProjectFaults : List Diagnostic → Type 0
AreProjectFaults faults = AllByRecursion (λ fault. IsProjectPlace fault.place) faults

abbrev pub AreClassFaults : List Diagnostic → Type 0
AreClassFaults faults = AllByRecursion (λ fault. IsClassPlace fault.place) faults

abbrev pub IsClassStorable : ClassAnswerValue → Type 0
IsClassStorable c = IsClassInOrder c × AreClassFaults c.faults
