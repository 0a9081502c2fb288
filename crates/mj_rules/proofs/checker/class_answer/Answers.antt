use Rattle.std.proofs.Common.{◌≡◌, ◌∙◌, ◌++◌, List, map, sym, ap, subst}
use Rattle.mj_answer.specs.declared.diagnostic.Diagnostic.{Diagnostic}
use Rattle.mj_answer.specs.AnswerValues.{ClassTableValue, ClassAnswerValue}
use Rattle.mj_answer.specs.Order.{IsAscending}
use Rattle.mj_members.specs.Classes.{class_ref_view}
use Rattle.mj_classes.specs.Index.{declared_in}
use Rattle.mj_tables.specs.Tables.{IsTableOf}
use Rattle.mj_rules.specs.FaultLists.{body_faults, class_faults}
use Rattle.mj_rules.specs.Tables.{field_row, method_row, table_of}
use Rattle.mj_rules.proofs.Composing.{SameFaults, class_answer}
use Rattle.mj_rules.proofs.LowerLaws.{chain_laws, member_laws}
use Rattle.mj_rules.proofs.LowerBodies.{body_laws}
use Rattle.mj_rules.proofs.checker.class_answer.Goals as goal

-- a table by its rows
table_is : (table other : ClassTableValue) → table.fields ≡ other.fields → table.methods ≡ other.methods → table ≡ other
table_is table other fields methods = λ i. record { fields = fields i; methods = methods i }

pub table_at-requires : goal.table_at-requires
table_at-requires c = ((class_ref_view c.args.class.now).name, c.requires.at)

pub returns-clause-rules : goal.returns-clause-rules
returns-clause-rules c =
    let cs = declared_in c.args.tables.now in
    let k = class_ref_view c.args.class.now in
    let listed : c.add_body_faults.new.faults.items ≡ class_faults c.args.profile cs k = c.in_ok-add_body_faults.ensures ∙ ap (λ ds. ds ++ body_faults cs k) c.in_ok-faults.ensures in
    let name : c.new.result.name ≡ k.name = ap (λ (a : ClassAnswerValue). a.name) c.new.ensures ∙ (c.in_ok-name.ensures ∙ c.name.ensures) in
    let members : IsTableOf cs k.name c.table_at.result.now = c.table_at.ensures k.name c.requires.at in
    let fields : c.in_ok-table.table.fields ≡ (table_of cs k.name).fields = c.in_ok-table.ensures.fields ∙ ap (map field_row) members.fields in
    let methods : c.in_ok-table.table.methods ≡ (table_of cs k.name).methods = c.in_ok-table.ensures.methods ∙ ap (map method_row) members.methods in
    let table : c.new.result.table ≡ table_of cs k.name = ap (λ (a : ClassAnswerValue). a.table) c.new.ensures ∙ table_is c.in_ok-table.table (table_of cs k.name) fields methods in
    let faults : c.new.result.faults ≡ c.fault_set.result.items = ap (λ (a : ClassAnswerValue). a.faults) c.new.ensures in
    let same : SameFaults c.fault_set.result.items (class_faults c.args.profile cs k) = subst (λ (ds : List Diagnostic). SameFaults c.fault_set.result.items ds) listed c.fault_set.ensures.same in
    class_answer chain_laws member_laws body_laws c.args.profile cs c.requires.fit k c.new.result c.requires.first name table (subst IsAscending (sym faults) c.fault_set.ensures.ascending)
    (subst (λ (ds : List Diagnostic). SameFaults ds (class_faults c.args.profile cs k)) (sym faults) same)
