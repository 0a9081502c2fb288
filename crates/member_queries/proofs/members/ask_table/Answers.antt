use Rattle.std.proofs.Common.{◌≡◌, rules, sym, ap, subst, ◌∙◌}
use Rattle.ordered_names.specs.Order.{IsAscendingByName}
use Rattle.recorder.specs.Programs.{GivesUp}
use Rattle.member_queries.specs.Members.{nearest_methods, table_steps}
use Rattle.member_queries.specs.MemberTables.{member_name_view, member_names_view}
use Rattle.member_queries.proofs.MemberTables.{methods_ascend, table_goes, table_up}
use Rattle.member_queries.proofs.members.ask_table.Goals as goal

pub ask_all_types-requires : goal.ask_all_types-requires
ask_all_types-requires g c =
    subst (IsAscendingByName (λ m. m.name.now)) (sym c.deref.ensures.value) (methods_ascend member_name_view c.in_ok-methods.methods.items c.args.links.now c.in_ok-methods.ensures)

pub returns-in_err-rows-clause-err : goal.returns-in_err-rows-clause-err
returns-in_err-rows-clause-err g c =
    let told : member_names_view c.deref.result.now ≡ nearest_methods c.args.links.now = ap member_names_view c.deref.ensures.value ∙ c.in_ok-methods.ensures in
    let h : GivesUp (table_steps c.args.links.now) c.args.recorder.now c.in_err-rows.field-0.0 c.ask_all_types.new.recorder =
    table_up c.args.links.now (member_names_view c.deref.result.now) told c.args.recorder.now _ _ c.in_err-rows.ensures.err in
    search rules

pub returns-clause-ok : goal.returns-clause-ok
returns-clause-ok g c =
    let told : member_names_view c.deref.result.now ≡ nearest_methods c.args.links.now = ap member_names_view c.deref.ensures.value ∙ c.in_ok-methods.ensures in
    table_goes c.args.links.now (member_names_view c.deref.result.now) told c.args.recorder.now _ c.in_ok-rows.rows.items c.in_ok-members.members c.in_ok-rows.ensures.ok c.in_ok-members.ensures
