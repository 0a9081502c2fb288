use Rattle.std.proofs.Common.{◌≡◌, ◌<◌, map, length, arith}
use Rattle.mj_members.specs.Classes.{class_ref_view, field_member_view, method_member_view}
use Rattle.mj_members.specs.Tables.{fields_over, methods_over}
use Rattle.mj_classes.specs.Index.{declared_in}
use Rattle.mj_tables.specs.Tables.{IsTableAt}
use Rattle.mj_tables.proofs.TableSteps.{next_within, laid_over, both_ok, read_there}
use Rattle.mj_tables.proofs.making.table_at.Goals as goal

pub returns-in-Some-tables : goal.returns-in-Some-tables
returns-in-Some-tables c =
    let cs = declared_in c.args.declarations.now in
    let k = class_ref_view c.class_at-class.result in
    let inherited = c.in-Some-tables.inherited in
    let lt = next_within cs c.args.at c.in-Some.above c.requires.first c.in-Some.ensures in
    let within : c.in-Some.above < length c.args.tables.now = omega (arith, lt, c.requires.right.all) in
    let right = c.requires.right.each c.in-Some.above inherited (read_there c.args.tables.now c.in-Some.above c.index-tables-above.result inherited within c.index-tables-above.is c.in-Some-tables.is) in
    both_ok (λ t. map field_member_view t.fields.items ≡ fields_over k (map field_member_view inherited.fields.items)) (λ t. map method_member_view t.methods.items ≡ methods_over k (map method_member_view inherited.methods.items))
    (IsTableAt cs c.args.at) c.table_over.result
    (λ t fields methods. laid_over cs c.args.at c.in-Some.above k inherited t c.requires.first c.class_at-class.ensures c.in-Some.ensures right fields methods) c.table_over.ensures.fields c.table_over.ensures.methods
