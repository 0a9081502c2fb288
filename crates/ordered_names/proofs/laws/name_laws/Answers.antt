use Rattle.std.proofs.Common.{sym, ap, ◌∙◌, rules}
use Rattle.std.specs.Cmp.Rules.{comparing}
use Rattle.std.specs.Ordering.{is_eq}
use Rattle.std.proofs.lemmas.Slice.Eq.{bytes_eq-Decides}
use Rattle.std.proofs.lemmas.Map.Text.{is_eq-slice_cmp}
use Rattle.ordered_names.specs.Order.{NameBefore}
use Rattle.ordered_names.proofs.Orders.{names}
use Rattle.ordered_names.proofs.Alike.{one_list_by}
use Rattle.ordered_names.proofs.laws.name_laws.Goals as goal

pub returns-clause-order : goal.returns-clause-order
returns-clause-order c = search (comparing, rules)

pub returns-clause-ties : goal.returns-clause-ties
returns-clause-ties c = λ m n e. (bytes_eq-Decides m n).0 (sym (is_eq-slice_cmp m n) ∙ ap is_eq e)

pub returns-clause-before : goal.returns-clause-before
returns-clause-before c = names

pub returns-clause-one : goal.returns-clause-one
returns-clause-one c = one_list_by _ _ (λ name. name) NameBefore names
