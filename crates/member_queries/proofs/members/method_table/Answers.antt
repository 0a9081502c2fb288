use Rattle.std.proofs.Common.{◌≡◌, ◌+◌, ◌-◌, ◌<◌, length, arith}
use Rattle.std.specs.BTreeMap.{values}
use Rattle.std.proofs.lemmas.Result.{IfOk-weaker}
use Rattle.mj_members.proofs.Rows.{all_laid, table_from}
use Rattle.member_queries.specs.Members.{methods_of_header, rows_along, nearest_methods}
use Rattle.member_queries.specs.MemberTables.{member_name_view}
use Rattle.member_queries.proofs.MemberTables.{link_laid}
use Rattle.member_queries.proofs.members.method_table.Goals as goal

pub loop-number-preserved : goal.loop-number-preserved
loop-number-preserved c =
    let next : c.loop-number.number ≡ c.loop-number.number - 1 + 1 = omega (arith, c.loop-number-test.true) in
    let within : c.loop-number.number - 1 < length c.args.links.now = omega (arith, c.loop-number-test.true, c.loop-number.auto.number) in
    link_laid member_name_view (λ n. n) methods_of_header c.loop-number.rows.entries c.lay_methods.new.rows.entries c.args.links.now c.loop-number.number (c.loop-number.number - 1) c.index-links-number.result
    next within c.index-links-number.is c.loop-number.invariant c.in_ok-lay_methods.ensures

pub returns : goal.returns
unfolding nearest_methods
returns c =
    let all = all_laid (λ ls. rows_along (λ n. n) methods_of_header ls) member_name_view c.args.links.now c.loop-number.rows.entries c.loop-number.number c.loop-number-test.false c.loop-number.invariant in
    IfOk-weaker c.in_order.result (λ v. v.items ≡ values c.loop-number.rows) _
    (λ v e. table_from member_name_view c.loop-number.rows.entries v.items (rows_along (λ n. n) methods_of_header c.args.links.now) c.in_order.ensures.ordered all e) c.in_order.ensures.values
