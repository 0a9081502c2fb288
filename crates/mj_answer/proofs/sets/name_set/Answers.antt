use Rattle.std.specs.Ordering.{nat_cmp}
use Rattle.std.specs.Cmp.Lexicographic.{slice_cmp}
use Rattle.ordered_names.specs.Order.{NameBefore}
use Rattle.mj_answer.proofs.Compared.{ascends}
use Rattle.mj_answer.proofs.sets.name_set.Goals as goal

pub returns-clause-ascending : goal.returns-clause-ascending
returns-clause-ascending c = ascends (slice_cmp nat_cmp) NameBefore (λ m n e. e) _ c.ascending.ensures.ascending
