-- What answers keep in their types goes into the answer for the project.
use Rattle.std.proofs.Common.{◌≡◌, List, map, Some, None, sym, ap, ap₂, subst, ◌∙◌}
use Rattle.mj_tree.specs.Trees.{Name}
use Rattle.mj_answer.specs.declared.diagnostic.Diagnostic.{Diagnostic}
use Rattle.mj_answer.specs.AnswerValues.{ClassTableValue, ClassAnswerValue}
use Rattle.ordered_names.specs.Order.{NameBefore, IsAscendingBy, IsAscendingByName}
use Rattle.mj_answer.specs.Order.{IsAscending, IsTableInOrder}
use Rattle.item_ids.proofs.Lists.{all_map}
use Rattle.answer_bytes.specs.Storable.{IsClassPlace, ClassFaultFits, ClassFaultsFit, AreClassFaults, IsClassStorable}
use Rattle.result_bytes.specs.Parts.{faults_in}
use Rattle.result_bytes.specs.declared.files.IndexRow.{IndexRow}
use Rattle.result_bytes.specs.declared.value.Value.{Value}
use Rattle.result_bytes.specs.declared.value.Value.TheVariants.{Files, Source, Tree, Index, Header, Method, Sig, Supers, Members, CheckClass, CheckBody, Diags, Answer}
use Rattle.result_bytes.specs.Values.{IsValue}
use Rattle.body_questions.specs.Members.{table_in}
use Rattle.mj_rules.proofs.TableLaws.{ascend_by_names}
use Rattle.member_queries.proofs.MemberTables.{names_by}
use Rattle.answer_queries.specs.Answer.{class_answer}

-- ---- a class

table_ascends : (v : Value) → IsValue v → IsTableInOrder (table_in v)
unfolding IsValue
table_ascends (Members (Some table)) h = (h.fields.order, h.methods.order)
table_ascends (Members None) h = (tt, tt)
table_ascends (Files names) h = (tt, tt)
table_ascends (Source bytes) h = (tt, tt)
table_ascends (Tree tree) h = (tt, tt)
table_ascends (Index rows) h = (tt, tt)
table_ascends (Header header) h = (tt, tt)
table_ascends (Method body) h = (tt, tt)
table_ascends (Sig types) h = (tt, tt)
table_ascends (Supers chain) h = (tt, tt)
table_ascends (CheckClass faults) h = (tt, tt)
table_ascends (CheckBody faults) h = (tt, tt)
table_ascends (Diags faults) h = (tt, tt)
table_ascends (Answer answer) h = (tt, tt)

abbrev AreKept : List Diagnostic → Type 0
AreKept faults = IsAscending faults × AreClassFaults faults

those_kept : (faults : List Diagnostic) → ClassFaultsFit faults → AreKept faults
those_kept faults h = (h.order, all_map ClassFaultFits (λ (fault : Diagnostic). IsClassPlace fault.place) (λ fault fits. fits.0) faults h.each)

pub class_storable : (name : Name) (members diags : Value) → IsValue members → ClassFaultsFit (faults_in diags) → IsClassStorable (class_answer name members diags)
class_storable name members diags m d = let faults = those_kept (faults_in diags) d in ((table_ascends members m, faults.0), faults.1)

-- the class of these parts
pub class_told : (c : Name) (members diags : Value) (name : Name) (table : ClassTableValue) (faults : List Diagnostic) → name ≡ c → table ≡ table_in members → faults ≡ faults_in diags
    → record { name = name; table = table; faults = faults } ≡ class_answer c members diags
class_told c members diags name table faults same_name same_table same_faults =
    ap (λ (n : Name). record { name = n; table = table; faults = faults }) same_name
    ∙ ap₂ (λ (t : ClassTableValue) (ds : List Diagnostic). record { name = c; table = t; faults = ds }) same_table same_faults

-- ---- the classes ascend as their rows do

pub classes_ascend : (classes : List ClassAnswerValue) (rows : List IndexRow) → map (λ (class : ClassAnswerValue). class.name) classes ≡ map (λ (row : IndexRow). row.class) rows
    → IsAscendingByName (λ (row : IndexRow). row.class) rows → IsAscendingByName (λ (class : ClassAnswerValue). class.name) classes
classes_ascend classes rows same up =
    ascend_by_names (λ (class : ClassAnswerValue). class.name) classes (subst (IsAscendingBy NameBefore) (sym same) (names_by (λ (row : IndexRow). row.class) rows up))
