use Rattle.ordered_names.specs.Order.{NameBefore}
use Rattle.mj_answer.specs.Order.{Before}
use Rattle.ordered_names.proofs.Orders.{names}
use Rattle.mj_answer.proofs.Orders.{faults}
use Rattle.ordered_names.proofs.Alike.{one_list_by}
use Rattle.mj_answer.proofs.laws.one_list.Goals as goal

pub returns : goal.returns
returns c = record {
  faults = one_list_by _ _ (λ fault. fault) Before faults;
  fields = one_list_by _ _ (λ row. row.name) NameBefore names;
  methods = one_list_by _ _ (λ row. row.name) NameBefore names;
  classes = one_list_by _ _ (λ class. class.name) NameBefore names;
}
