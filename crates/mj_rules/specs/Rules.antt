-- The answer that the static rules give a project.
use Rattle.std.specs.Prelude.{◌≡◌, ◌↔◌, List, map, Some, All, Contains}
use Rattle.mj_tree.specs.Trees.{Name, Method}
use Rattle.mj_tree.specs.declared.place.Place.{Place}
use Rattle.mj_tree.specs.declared.tree.Field.{Field}
use Rattle.mj_answer.specs.declared.code.Code.{Code}
use Rattle.mj_answer.specs.declared.diagnostic.Diagnostic.{Diagnostic}
use Rattle.mj_answer.specs.declared.table.FieldRow.{FieldRow}
use Rattle.mj_answer.specs.AnswerValues.{MethodRowValue, ClassTableValue, ClassAnswerValue, AnswerValue}
use Rattle.ordered_names.specs.Order.{IsAscendingByName}
use Rattle.mj_answer.specs.Order.{IsAscending}
use Rattle.mj_members.specs.Declarations.{ClassDecl}
use Rattle.mj_classes.specs.Declarations.{decl}
use Rattle.mj_classes.specs.Members.{FieldOf, MethodOf}
use Rattle.named_files.specs.Projects.{SourceFile}
use Rattle.profiles.specs.declared.profile.Profile.{Profile}
use Rattle.mj_rules.specs.Sentences.{classes_in}
use Rattle.mj_rules.specs.ProjectFaults.{FaultOfProject}
use Rattle.mj_rules.specs.ClassFaults.{FaultOfClass}

-- the diagnostics, each once, in ascending order
pub record AreTheFaults (Fault : Place → Code → Type 0) (faults : List Diagnostic) : Type 0 where
  pub ascending : IsAscending faults
  pub exactly : (place : Place) (code : Code)
      → Contains faults (record { place = place; code = code }) ↔ Fault place code

-- the row of a field that a class has, and that of a method
pub record IsFieldOf (cs : List ClassDecl) (c : Name) (row : FieldRow) : Type 0 where
  pub field : Field
  pub nearest : FieldOf cs c row.name row.owner field
  pub ty : row.ty ≡ field.ty

pub record IsMethodOf (cs : List ClassDecl) (c : Name) (row : MethodRowValue) : Type 0 where
  pub method : Method
  pub nearest : MethodOf cs c row.name row.owner method
  pub formals : row.formals ≡ map (λ v. v.ty) method.formals
  pub returns : row.returns ≡ method.returns

-- all fields and all methods that a class has, each ascending by name
pub record IsTableOf (cs : List ClassDecl) (c : Name) (table : ClassTableValue) : Type 0 where
  pub fields_ascend : IsAscendingByName (λ row. row.name) table.fields
  pub fields : (row : FieldRow) → Contains table.fields row ↔ IsFieldOf cs c row
  pub methods_ascend : IsAscendingByName (λ row. row.name) table.methods
  pub methods : (row : MethodRowValue) → Contains table.methods row ↔ IsMethodOf cs c row

-- the table and the diagnostics of the first class of a name
pub record IsAnswerFor (profile : Profile) (cs : List ClassDecl)
    (answer : ClassAnswerValue) : Type 0 where
  pub class : ClassDecl
  pub first : decl cs answer.name ≡ Some class
  pub table : IsTableOf cs answer.name answer.table
  pub faults : AreTheFaults (FaultOfClass profile cs class) answer.faults

-- each declared class with its table and its diagnostics, ascending by name
pub record AreClassAnswers (profile : Profile) (cs : List ClassDecl)
    (answers : List ClassAnswerValue) : Type 0 where
  pub ascending : IsAscendingByName (λ class. class.name) answers
  pub each : All (IsAnswerFor profile cs) answers
  pub all : (k : ClassDecl) → Contains cs k → Contains (map (λ class. class.name) answers) k.name

-- the project's own diagnostics, and its classes
pub record Rules (profile : Profile) (files : List SourceFile) (answer : AnswerValue) : Type 0 where
  pub faults : AreTheFaults (FaultOfProject files) answer.faults
  pub classes : AreClassAnswers profile (classes_in files) answer.classes
