use Rattle.std.proofs.Common.{◌∙◌, ap}
use Rattle.mj_members.specs.Classes.{classes_view}
use Rattle.mj_members.specs.Tables.{fields_along, methods_along}
use Rattle.mj_classes.specs.Chains.{ancestry}
use Rattle.mj_classes.specs.Index.{declared_in}
use Rattle.mj_tables.proofs.Declaring.{fields_declaring, methods_declaring}
use Rattle.mj_tables.proofs.making.table_along.Goals as goal

pub returns : goal.returns
returns c n here =
    let cs = declared_in c.args.declarations.now in
    let chain = (c.in_ok-chain.ensures n here).1 in
    record {
      fields = c.in_ok-field_table.ensures ∙ (ap fields_along (ap (λ xs. classes_view xs) c.deref.ensures.value ∙ chain) ∙ fields_declaring (ancestry cs n));
      methods = c.in_ok-method_table.ensures ∙ (ap methods_along (ap (λ xs. classes_view xs) c.deref-2.ensures.value ∙ chain) ∙ methods_declaring (ancestry cs n));
    }
