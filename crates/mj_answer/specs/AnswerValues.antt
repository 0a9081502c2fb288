-- Answers, apart from where they lie in memory.
use Rattle.std.specs.Prelude.{ℕ, List}
use Rattle.mj_tree.specs.declared.tree.Ty.{Ty}
use Rattle.mj_answer.specs.declared.diagnostic.Diagnostic.{Diagnostic}
use Rattle.mj_answer.specs.declared.table.FieldRow.{FieldRow}

pub record MethodRowValue : Type 0 where
  pub name : List ℕ
  pub owner : List ℕ
  pub formals : List Ty
  pub returns : Ty

pub record ClassTableValue : Type 0 where
  pub fields : List FieldRow
  pub methods : List MethodRowValue

pub record ClassAnswerValue : Type 0 where
  pub name : List ℕ
  pub table : ClassTableValue
  pub faults : List Diagnostic

pub record AnswerValue : Type 0 where
  pub faults : List Diagnostic
  pub classes : List ClassAnswerValue
